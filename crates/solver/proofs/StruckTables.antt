-- The tables of counts and of words after a strike.
use Rattle.std.proofs.Common.{◌≡◌, ℕ, ◌+◌, ◌<◌, ◌≢◌, ◌==◌, not, inl, inr, Bool, true, false, suc, arith, sym, ap, ◌∙◌}
use Rattle.std.proofs.Common.{List, length, slice_index, slice_set, get_or-set_other, get_or-set_same}
use Rattle.std.proofs.Math.ListN.{length-set}
use Rattle.std.proofs.lemmas.Bool.Decides.{nat_tests}
use Rattle.graphs.specs.Graph.{PlainGraph, IsGraph, is_member, live_answers, is_answered, lasts}
use Rattle.solver.specs.Inside.Tables.{is_open, IsCounted, AreWords, GapIsClosed}
use Rattle.gap_values.specs.declared.closing.TheConstants.{OPEN}
use Rattle.graphs.proofs.Cited.{without, IsBetween, member-at, both_true, and_true, true_or_false, true_not_false}
use Rattle.graphs.proofs.Cited.{same_or_not, live-le, live-same, next-closed, next-le, next-same}
use Rattle.solver.proofs.Strikes.{strike-home, strike-other, open-same, open-outside, open-member}

-- the tables speak of the test only below the number of configurations
module _ (a : PlainGraph) (is : IsGraph a) (above above' : ℕ → Bool)
    (same : (x : ℕ) → x < a.configurations → above x ≡ above' x) where
  pub IsCounted-same : (counts : List ℕ) → IsCounted a above counts → IsCounted a above' counts
  IsCounted-same counts t = record {
    counts_length = t.counts_length;
    counted = λ g i. t.counted g i ∙ live-same a is above above' g i same;
  }

  pub AreWords-same : (values : List ℕ) → AreWords a above values → AreWords a above' values
  AreWords-same values t = record {
    values_length = t.values_length;
    opened = λ x i. t.opened x i ∙ next-same a is above above' x i same;
    lasting = t.lasting;
    stopping = t.stopping;
  }

-- a word that is a value is not open
filed-shut : (n value : ℕ) → value ≢ OPEN → n ≡ value → n == OPEN ≡ false
filed-shut n value small e = grind (arith, nat_tests)

pub same-open : (m n : ℕ) → m ≡ n → m == OPEN ≡ n == OPEN
same-open m n e = ap (λ k. k == OPEN) e

-- c is an answer of the gap g, and passes the test until it is struck
pub record IsLiveAnswer (a : PlainGraph) (above : ℕ → Bool) (c g : ℕ) : Type 0 where
  pub is_graph : IsGraph a
  pub is_rank : c < a.configurations
  pub gap_is : g ≡ a.struck c
  pub in_gaps : g < a.gaps
  pub is_above : above c ≡ true

-- a strike at c
module _ (a : PlainGraph) (above : ℕ → Bool) (c g : ℕ) (live : IsLiveAnswer a above c g) where
  is : IsGraph a
  is = live.is_graph

  without-less : (y : ℕ) → y < a.configurations → without above c y ≡ true → above y ≡ true
  without-less y j e = (both_true _ _ e).0

  others : (h : ℕ) → h ≢ g → live_answers a (without above c) h ≡ live_answers a above h
  others h other = strike-other a above c h (λ e. other (e ∙ sym live.gap_is))

  module _ (n : ℕ) (counts : List ℕ) (count_is : slice_index counts g ≡ n + 1)
      (t : IsCounted a above counts) where
    -- the count of the gap after the strike
    pub home-now : live_answers a (without above c) g ≡ n
    home-now =
        let home = strike-home a is above c g live.is_rank live.gap_is live.in_gaps live.is_above in
        let before = t.counted g live.in_gaps in
        omega arith

    -- the counts after the strike
    pub counted-struck : IsCounted a (without above c) (slice_set counts g n)
    counted-struck = record {
      counts_length = length-set counts g n ∙ t.counts_length;
      counted = λ h j. elim (same_or_not h g) [
        | inl same ↦
            let in_range : g < length counts = omega (arith, t.counts_length, live.in_gaps) in
            ap (slice_index (slice_set counts g n)) same ∙ get_or-set_same counts g n 0 in_range ∙ sym home-now
            ∙ ap (live_answers a (without above c)) (sym same)
        | inr other ↦ get_or-set_other counts g h n 0 other ∙ t.counted h j ∙ sym (others h other)
      ];
    }

  module _ (n : ℕ) (now : live_answers a (without above c) g ≡ n) where
    -- if the gap keeps a live answer, each gap that had one keeps one
    some-left : 0 < n → (h : ℕ) → h < a.gaps → 0 < live_answers a above h → 0 < live_answers a (without above c) h
    some-left some h j was = elim (same_or_not h g) [
      | inl same ↦ rw (same, now) some
      | inr other ↦ rw (others h other) was
    ]

    -- after a strike that leaves the gap a live answer the words are as before
    pub words-some : (values : List ℕ) → 0 < n → AreWords a above values → AreWords a (without above c) values
    words-some values some t = record {
      values_length = t.values_length;
      opened = λ x j. t.opened x j ∙ sym (open-same a is above (without above c) x j without-less (some-left some));
      lasting = t.lasting;
      stopping = t.stopping;
    }

  module _ (values values' : List ℕ) (now : live_answers a (without above c) g ≡ 0) (t : AreWords a above values) where
    -- the words after the gap has closed
    closed-opened : (value : ℕ) → value ≢ OPEN → GapIsClosed a g value values values' → (x : ℕ) → x < a.configurations
        → is_open values' x ≡ is_answered a (without above c) x
    closed-opened value small closed x j = elim (true_or_false (is_member a g x)) [
      | inl member ↦
          (let gone = open-member a (without above c) x g live.in_gaps member now in
          elim (true_or_false (is_open values x)) [
            | inl was_open ↦ filed-shut (slice_index values' x) value small (closed.filed x j member was_open)
                ∙ sym gone
            | inr shut ↦ same-open (slice_index values' x) (slice_index values x) (closed.kept x j shut) ∙ shut
                ∙ sym gone
          ])
      | inr outside ↦
          same-open (slice_index values' x) (slice_index values x) (closed.outside x j outside) ∙ t.opened x j
          ∙ sym (open-outside a is above (without above c) x j without-less g outside (λ h k ne. others h ne))
    ]

    module _ (r : ℕ) (between : IsBetween a r above) (stops : lasts a (suc r) c ≡ false) where
      -- an open member of a closed gap has the next value
      filed-value : (x : ℕ) → x < a.configurations → is_member a g x ≡ true → is_open values x ≡ true
          → (lasts a (suc r) x ≡ true) × (lasts a (suc (suc r)) x ≡ false)
      filed-value x j member was_open =
          let was : is_answered a above x ≡ true = sym (t.opened x j) ∙ was_open in
          let none = live-le a is (lasts a (suc r)) (without above c) g live.in_gaps (λ y k e.
          and_true (above y) (not (y == c)) (between.lower y k e) (other_than y e)) in
          let zero_live : live_answers a (lasts a (suc r)) g ≡ 0 = omega arith in
          let w = member-at a g x member in (
            next-le a is above (lasts a r) x j between.upper was,
            next-closed a (lasts a (suc r)) x g w.0 live.in_gaps w.1 w.2 zero_live,
          )
        where
          other_than : (y : ℕ) → lasts a (suc r) y ≡ true → not (y == c) ≡ true
          other_than y e = elim (same_or_not y c) [
            | inl same ↦
                absurd (true_not_false (lasts a (suc r) y) e (ap (lasts a (suc r)) same ∙ stops))
            | inr differ ↦
                grind (arith, nat_tests)
          ]

      -- a word after the gap has closed: filed now, or as before
      word-after : GapIsClosed a g (suc r) values values' → (x : ℕ) → x < a.configurations → is_open values' x ≡ false
          → (lasts a (slice_index values' x) x ≡ true) × (lasts a (suc (slice_index values' x)) x ≡ false)
      word-after closed x j shut = elim (true_or_false (is_open values x)) [
        | inl was_open ↦ elim (true_or_false (is_member a g x)) [
          | inl member ↦ rw (closed.filed x j member was_open) (filed-value x j member was_open)
          | inr outside ↦ absurd (true_not_false (is_open values x) was_open
              (sym (same-open (slice_index values' x) (slice_index values x) (closed.outside x j outside)) ∙ shut))
        ]
        | inr was_shut ↦ rw (closed.kept x j was_shut) (t.lasting x j was_shut, t.stopping x j was_shut)
      ]

      -- a strike that closes the gap
      pub words-closed : suc r ≢ OPEN → GapIsClosed a g (suc r) values values' → AreWords a (without above c) values'
      words-closed small closed = record {
        values_length = closed.same_length ∙ t.values_length;
        opened = closed-opened (suc r) small closed;
        lasting = λ x j shut. (word-after closed x j shut).0;
        stopping = λ x j shut. (word-after closed x j shut).1;
      }

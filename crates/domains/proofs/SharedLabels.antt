-- Two processes on one label count as one, and the best start is all processes on one label.
use Rattle.std.proofs.Common.{◌≡◌, ◌≢◌, ◌↔◌, ℕ, zero, suc, ◌<◌, ◌≤◌, ◌⊎◌, List, length, get_or, set, replicate, refl}
use Rattle.std.proofs.Common.{sym, ◌∙◌, subst, arith, inl, inr}
use Rattle.std.proofs.lemmas.Bool.{cases_lt, cases_eq}
use Rattle.std.proofs.lemmas.List.{ext_get_or, get_or-replicate, get_or-set_other, length-replicate, length-set}
use Rattle.std.proofs.lemmas.List.{set_past}
use Rattle.std.proofs.lemmas.Grind.{get_or-set_at}
use Rattle.board_text.specs.PlainBoard.{PlainBoard, Dominates}
use Rattle.positions.specs.Game.{AdversaryTree, Legal, LabellerTree, moved}
use Rattle.positions.specs.Value.{HasValue, HasValueAtMost}
use Rattle.positions.specs.declared.value.Value.TheVariants.{Finite, Forever}
use Rattle.positions.proofs.Cited.{at_most_from_tree, lasts_at_most, not_both_trees, some_tree}
use Rattle.domains.specs.Agreement.{AgreeBut}
use Rattle.domains.specs.ValueOrder.{AreWorthTheSame, IsWorthAtMost}
use Rattle.domains.proofs.ComparedValues.{LastsAsLong, at_most_from_trees, one_value_from_trees}
use Rattle.domains.proofs.Exchanges.{trade, trade_is, trade_apart, trade_below}
use Rattle.domains.proofs.Following.{itself, same_domain, led_lasts}
use Rattle.domains.proofs.LastingMoves.{lasting_answer}
use Rattle.domains.proofs.LowestLabels.{legal_elsewhere}
use Rattle.domains.proofs.OthersAlone.{one_result}
use Rattle.domains.proofs.Withdrawals.{freed_lasts}

-- one pebble holds the label of another at the first configuration and none at the second, and all
-- else is the same
record Shares (board : PlainBoard) (sharing other : ℕ) (both one : List ℕ) : Type 0 where
  long : length both ≡ board.pebbles
  agree : AgreeBut sharing one both
  differ : sharing ≢ other
  shared : get_or both sharing 0 ≡ get_or both other 0
  is_label : get_or both other 0 < board.labels
  none : board.labels ≤ get_or one sharing 0

module _ (board : PlainBoard) (sharing other : ℕ) (sharing_below : sharing < board.pebbles)
    (other_below : other < board.pebbles) where
  -- a label that is legal for the one that holds none is legal for either, and gives the same labels
  legal_for_other : (both one : List ℕ) (label : ℕ) → Shares board sharing other both one
      → Legal board one sharing label → Legal board both other label
  legal_for_other both one label shares legal = record {
    is_label = legal.is_label;
    dominates = λ place below differs low. elim (cases_eq place sharing) [
      | inl same ↦
          let beats : Dominates board label (get_or one other 0)
          = legal.dominates other other_below (λ is. shares.differ (sym is))
          (subst (λ n. n < board.labels) (sym (shares.agree.others other (λ is. shares.differ (sym is))))
          shares.is_label) in
          let there : get_or one other 0 ≡ get_or both place 0
          = shares.agree.others other (λ is. shares.differ (sym is))
          ∙ (sym shares.shared ∙ subst (λ n. get_or both sharing 0 ≡ get_or both n 0) (sym same) refl) in
          subst (Dominates board label) there beats
      | inr apart ↦ subst (Dominates board label) (shares.agree.others place apart)
          (legal.dominates place below apart
          (subst (λ n. n < board.labels) (sym (shares.agree.others place apart)) low))
    ];
  }

  traded_result : (both one : List ℕ) (label : ℕ) → Shares board sharing other both one → label < board.labels
      → LastsAsLong board (moved one sharing label) board (moved both other label)
  traded_result both one label shares low depth =
      let one_long : length one ≡ board.pebbles = shares.agree.same_length ∙ shares.long in
      led_lasts board board (λ n. n) (trade sharing other)
      (same_domain board board (trade sharing other) refl refl
      (λ pebble below. trade_below board.pebbles sharing other pebble sharing_below other_below below)
      (λ first second below second_below same. trade_apart sharing other first second same))
      depth (moved one sharing label) (moved both other label)
      (record {
        long = length-set one sharing label ∙ one_long;
        led_long = length-set both other label ∙ shares.long;
        each = λ pebble below.
            let same : get_or (moved both other label) pebble 0
            ≡ get_or (moved one sharing label) (trade sharing other pebble) 0
            = elim (cases_eq pebble sharing) [
              | inl is ↦
                  let to : trade sharing other pebble ≡ other = (trade_is sharing other pebble).first is in
                  get_or-set_other both other pebble label 0 (λ at. shares.differ (sym is ∙ at))
                  ∙ (subst (λ n. get_or both pebble 0 ≡ get_or both n 0) is refl
                  ∙ (shares.shared
                  ∙ (sym (shares.agree.others other (λ at. shares.differ (sym at)))
                  ∙ (sym (get_or-set_other one sharing other label 0 (λ at. shares.differ (sym at)))
                  ∙ subst (λ n. get_or (moved one sharing label) other 0 ≡ get_or (moved one sharing label) n 0)
                  (sym to) refl))))
              | inr apart ↦ elim (cases_eq pebble other) [
                | inl is ↦ get_or-set_at both other pebble label 0 is (omega (arith, shares.long, other_below))
                    ∙ sym (get_or-set_at one sharing (trade sharing other pebble) label 0
                    ((trade_is sharing other pebble).second is) (omega (arith, one_long, sharing_below)))
                | inr not ↦
                    let to : trade sharing other pebble ≡ pebble = (trade_is sharing other pebble).other apart not in
                    get_or-set_other both other pebble label 0 not
                    ∙ (sym (shares.agree.others pebble apart)
                    ∙ (sym (get_or-set_other one sharing pebble label 0 apart)
                    ∙ subst (λ n. get_or (moved one sharing label) pebble 0 ≡ get_or (moved one sharing label) n 0)
                    (sym to) refl))
              ]
            ] in
            elim (cases_lt (get_or (moved one sharing label) (trade sharing other pebble) 0) board.labels) [
              | inl held ↦ inl (held, same)
              | inr none ↦ inr (subst (λ n. board.labels ≤ n) (sym same) none)
            ];
      })

  -- a label that is legal for a third pebble without the shared one is legal with it
  legal_for_third : (both one : List ℕ) (pebble label : ℕ) → Shares board sharing other both one → pebble ≢ other
      → Legal board one pebble label → Legal board both pebble label
  legal_for_third both one pebble label shares apart legal = record {
    is_label = legal.is_label;
    dominates = λ place below differs low. elim (cases_eq place sharing) [
      | inl same ↦
          let there : get_or one other 0 ≡ get_or both place 0
          = shares.agree.others other (λ is. shares.differ (sym is))
          ∙ (sym shares.shared ∙ subst (λ n. get_or both sharing 0 ≡ get_or both n 0) (sym same) refl) in
          subst (Dominates board label) there
          (legal.dominates other other_below (λ is. apart (sym is))
          (subst (λ n. n < board.labels) (sym there) low))
      | inr not ↦ subst (Dominates board label) (shares.agree.others place not)
          (legal.dominates place below differs
          (subst (λ n. n < board.labels) (sym (shares.agree.others place not)) low))
    ];
  }

  third_result : (both one : List ℕ) (pebble label : ℕ) → Shares board sharing other both one
      → pebble < board.pebbles → pebble ≢ sharing → pebble ≢ other
      → Shares board sharing other (moved both pebble label) (moved one pebble label)
  third_result both one pebble label shares below apart not =
      let of_sharing = get_or-set_other both pebble sharing label 0 (λ is. apart (sym is)) in
      let of_other = get_or-set_other both pebble other label 0 (λ is. not (sym is)) in record {
        long = length-set both pebble label ∙ shares.long;
        agree = record {
          same_length = length-set one pebble label ∙ (shares.agree.same_length ∙ sym (length-set both pebble label));
          others = λ place differs. elim (cases_eq place pebble) [
            | inl same ↦ get_or-set_at one pebble place label 0 same
                (omega (arith, shares.agree.same_length, shares.long, below))
                ∙ sym (get_or-set_at both pebble place label 0 same (omega (arith, shares.long, below)))
            | inr other_differs ↦ get_or-set_other one pebble place label 0 other_differs
                ∙ (shares.agree.others place differs ∙ sym (get_or-set_other both pebble place label 0 other_differs))
          ];
        };
        differ = shares.differ;
        shared = of_sharing ∙ (shares.shared ∙ sym of_other);
        is_label = subst (λ n. n < board.labels) (sym of_other) shares.is_label;
        none = subst (λ n. board.labels ≤ n) (sym (get_or-set_other one pebble sharing label 0 (λ is. apart (sym is))))
            shares.none;
      }

  shared_lasts : (depth : ℕ) (both one : List ℕ) → Shares board sharing other both one
      → LabellerTree board depth one → LabellerTree board depth both
  shared_lasts zero both one shares tree = tt
  shared_lasts (suc depth) both one shares tree =
      λ pebble below. elim (cases_eq pebble sharing) [
        | inl is ↦
            let answer = tree sharing sharing_below in
            subst (λ n. (label : ℕ) × Legal board both n label × LabellerTree board depth (moved both n label))
            (sym is) (
              answer.0,
              legal_elsewhere board one both sharing answer.0 shares.agree answer.1,
              subst (LabellerTree board depth) (one_result sharing answer.0 one both shares.agree) answer.2,
            )
        | inr apart ↦ elim (cases_eq pebble other) [
          | inl is ↦
              let answer = tree sharing sharing_below in
              subst (λ n. (label : ℕ) × Legal board both n label × LabellerTree board depth (moved both n label))
              (sym is) (
                answer.0,
                legal_for_other both one answer.0 shares answer.1,
                traded_result both one answer.0 shares answer.1.is_label depth answer.2,
              )
          | inr not ↦
              let answer = tree pebble below in (
                answer.0,
                legal_for_third both one pebble answer.0 shares not answer.1,
                shared_lasts depth (moved both pebble answer.0) (moved one pebble answer.0)
                    (third_result both one pebble answer.0 shares below apart not) answer.2,
              )
        ]
      ]

  -- without the shared label
  shares_one : (both : List ℕ) → length both ≡ board.pebbles → sharing ≢ other
      → get_or both sharing 0 ≡ get_or both other 0 → get_or both other 0 < board.labels
      → Shares board sharing other both (set both sharing board.labels)
  shares_one both long differ shared is_label = record {
    long = long;
    agree = record {
      same_length = length-set both sharing board.labels;
      others = λ place differs. get_or-set_other both sharing place board.labels 0 differs;
    };
    differ = differ;
    shared = shared;
    is_label = is_label;
    none = subst (λ n. board.labels ≤ n)
        (sym (get_or-set_at both sharing sharing board.labels 0 refl (omega (arith, long, sharing_below))))
        (omega arith);
  }

  -- a pebble that takes the label of another one never lowers the value
  joined_lasts : (c : List ℕ) → length c ≡ board.pebbles → sharing ≢ other → get_or c other 0 < board.labels
      → LastsAsLong board c board (set c sharing (get_or c other 0))
  joined_lasts c long differ is_label depth tree =
      let label = get_or c other 0 in
      let both = set c sharing label in
      let both_long : length both ≡ board.pebbles = length-set c sharing label ∙ long in
      let there : get_or both other 0 ≡ label = get_or-set_other c sharing other label 0 (λ is. differ (sym is)) in
      let here : get_or both sharing 0 ≡ label
      = get_or-set_at c sharing sharing label 0 refl (omega (arith, long, sharing_below)) in
      let shares : Shares board sharing other both (set both sharing board.labels)
      = shares_one both both_long differ (here ∙ sym there) (subst (λ n. n < board.labels) (sym there) is_label) in
      shared_lasts depth both (set both sharing board.labels) shares
      (freed_lasts board depth c (set both sharing board.labels)
      (record {
        same_length = length-set both sharing board.labels ∙ length-set c sharing label;
        each = λ place. elim (cases_eq place sharing) [
          | inl same ↦ inr (subst (λ n. board.labels ≤ n)
              (sym (get_or-set_at both sharing place board.labels 0 same (omega (arith, both_long, sharing_below))))
              (omega arith))
          | inr apart ↦ inl (get_or-set_other both sharing place board.labels 0 apart
              ∙ get_or-set_other c sharing place label 0 apart)
        ];
      }) tree)

  pub shared_worth : (c : List ℕ) → length c ≡ board.pebbles → sharing ≢ other
      → get_or c sharing 0 ≡ get_or c other 0 → get_or c other 0 < board.labels
      → AreWorthTheSame board c board (set c sharing board.labels)
  shared_worth c long differ shared is_label =
      one_value_from_trees board board c (set c sharing board.labels)
      (λ depth. freed_lasts board depth c (set c sharing board.labels)
      (record {
        same_length = length-set c sharing board.labels;
        each = λ place. elim (cases_eq place sharing) [
          | inl same ↦ inr (subst (λ n. board.labels ≤ n)
              (sym (get_or-set_at c sharing place board.labels 0 same (omega (arith, long, sharing_below))))
              (omega arith))
          | inr apart ↦ inl (get_or-set_other c sharing place board.labels 0 apart)
        ];
      }))
      (λ depth. shared_lasts depth c (set c sharing board.labels) (shares_one c long differ shared is_label))

-- two configurations that differ at most in places without a label
same_but_none : (board : PlainBoard) (c other : List ℕ) → length other ≡ length c
    → ((place : ℕ) → (get_or other place 0 ≡ get_or c place 0)
    ⊎ ((board.labels ≤ get_or other place 0) × (board.labels ≤ get_or c place 0)))
    → AreWorthTheSame board c board other
same_but_none board c other same_length each =
    one_value_from_trees board board c other
    (λ depth. freed_lasts board depth c other (record {
      same_length = same_length;
      each = λ place. elim (each place) [ inl same ↦ inl same | inr none ↦ inr none.0 ];
    }))
    (λ depth. freed_lasts board depth other c (record {
      same_length = sym same_length;
      each = λ place. elim (each place) [ inl same ↦ inl (sym same) | inr none ↦ inr none.1 ];
    }))

pub shared_labels : (board : PlainBoard) (c : List ℕ) (sharing other : ℕ) → length c ≡ board.pebbles
    → other < board.pebbles → sharing ≢ other → get_or c sharing 0 ≡ get_or c other 0
    → AreWorthTheSame board c board (set c sharing board.labels)
shared_labels board c sharing other long other_below differ shared =
    elim (cases_lt sharing board.pebbles) [
      | inr beyond ↦
          let same : set c sharing board.labels ≡ c = set_past c sharing board.labels (omega (arith, long, beyond)) in
          subst (AreWorthTheSame board c board) (sym same)
          (same_but_none board c c refl (λ place. inl refl))
      | inl below ↦ elim (cases_lt (get_or c other 0) board.labels) [
        | inl is_label ↦ shared_worth board sharing other below other_below c long differ shared is_label
        | inr none ↦ same_but_none board c (set c sharing board.labels) (length-set c sharing board.labels)
            (λ place. elim (cases_eq place sharing) [
              | inl same ↦ inr (
                subst (λ n. board.labels ≤ n)
                    (sym (get_or-set_at c sharing place board.labels 0 same (omega (arith, long, below))))
                    (omega arith),
                subst (λ n. board.labels ≤ get_or c n 0) (sym same) (omega (arith, shared, none)),
              )
              | inr apart ↦ inl (get_or-set_other c sharing place board.labels 0 apart)
            ])
      ]
    ]

-- ---- all on one label

-- the first pebbles hold this pebble's label, and last as long
record Gathered (board : PlainBoard) (c : List ℕ) (pebble label count : ℕ) : Type 0 where
  at : List ℕ
  long : length at ≡ board.pebbles
  holds : get_or at pebble 0 ≡ label
  each : (other : ℕ) → other < count → get_or at other 0 ≡ label
  lasts : LastsAsLong board c board at

gathered : (board : PlainBoard) (c : List ℕ) (pebble label count : ℕ) → length c ≡ board.pebbles
    → pebble < board.pebbles → label < board.labels → get_or c pebble 0 ≡ label → count ≤ board.pebbles
    → Gathered board c pebble label count
gathered board c pebble label zero long below is_label holds few = record {
  at = c;
  long = long;
  holds = holds;
  each = λ other low. absurd (omega (arith, low));
  lasts = λ depth tree. tree;
}
gathered board c pebble label (suc count) long below is_label holds few =
    let before = gathered board c pebble label count long below is_label holds (omega (arith, few)) in
    elim (cases_eq count pebble) [
      | inl is ↦ record {
        at = before.at;
        long = before.long;
        holds = before.holds;
        each = λ other low. elim (cases_eq other count) [
          | inl same ↦ subst (λ n. get_or before.at n 0 ≡ label) (sym (same ∙ is)) before.holds
          | inr differs ↦ before.each other (omega (arith, low, differs))
        ];
        lasts = before.lasts;
      }
      | inr apart ↦
          let joined : List ℕ = set before.at count (get_or before.at pebble 0) in
          record {
            at = joined;
            long = length-set before.at count (get_or before.at pebble 0) ∙ before.long;
            holds = get_or-set_other before.at count pebble (get_or before.at pebble 0) 0 (λ is. apart (sym is))
                ∙ before.holds;
            each = λ other low. elim (cases_eq other count) [
              | inl same ↦ get_or-set_at before.at count other (get_or before.at pebble 0) 0 same
                  (omega (arith, before.long, few)) ∙ before.holds
              | inr differs ↦ get_or-set_other before.at count other (get_or before.at pebble 0) 0 differs
                  ∙ before.each other (omega (arith, low, differs))
            ];
            lasts = λ depth tree. joined_lasts board count pebble few below before.at before.long apart
                (subst (λ n. n < board.labels) (sym before.holds) is_label) depth (before.lasts depth tree);
          }
    ]

pub all_on_one : (board : PlainBoard) (c : List ℕ) (pebble label : ℕ) → length c ≡ board.pebbles
    → pebble < board.pebbles → label < board.labels → get_or c pebble 0 ≡ label
    → LastsAsLong board c board (replicate board.pebbles label)
all_on_one board c pebble label long below is_label holds =
    let all = gathered board c pebble label board.pebbles long below is_label holds (omega arith) in
    let same : all.at ≡ replicate board.pebbles label
    = ext_get_or 0 all.at (replicate board.pebbles label)
    (all.long ∙ sym (length-replicate {A = ℕ} board.pebbles label))
    (λ place inside.
    let low : place < board.pebbles = omega (arith, inside, all.long) in
    all.each place low ∙ sym (get_or-replicate board.pebbles place label 0 low)) in
    λ depth tree. subst (LabellerTree board depth) same (all.lasts depth tree)

pub best_start : (board : PlainBoard) (c : List ℕ) (pebble : ℕ) → length c ≡ board.pebbles
    → pebble < board.pebbles → IsWorthAtMost board c board (replicate board.pebbles (get_or c pebble 0))
best_start board c pebble long below =
    at_most_from_trees board board c (replicate board.pebbles (get_or c pebble 0))
    (elim (cases_lt (get_or c pebble 0) board.labels) [
      | inl is_label ↦ all_on_one board c pebble (get_or c pebble 0) long below is_label refl
      | inr none ↦ λ depth. led_lasts board board (λ n. n) (λ n. n) (itself board board refl refl refl) depth c
          (replicate board.pebbles (get_or c pebble 0))
          (record {
            long = long;
            led_long = length-replicate {A = ℕ} board.pebbles (get_or c pebble 0);
            each = λ other other_below. inr (subst (λ n. board.labels ≤ n)
                (sym (get_or-replicate board.pebbles other (get_or c pebble 0) 0 other_below)) none);
          })
    ])

-- a configuration with one pebble on a label, after an answer
after_answer : (board : PlainBoard) (c : List ℕ) (pebble label : ℕ) → length c ≡ board.pebbles
    → pebble < board.pebbles → label < board.labels
    → LastsAsLong board (moved c pebble label) board (replicate board.pebbles label)
after_answer board c pebble label long below is_label =
    all_on_one board (moved c pebble label) pebble label (length-set c pebble label ∙ long) below is_label
    (get_or-set_at c pebble pebble label 0 refl (omega (arith, long, below)))

pub lasting_start : (board : PlainBoard) → 0 < board.pebbles
    → ((c : List ℕ) × (length c ≡ board.pebbles) × HasValue board c Forever)
    ↔ ((label : ℕ) × (label < board.labels) × HasValue board (replicate board.pebbles label) Forever)
lasting_start board some = (
  λ found.
      let answer = lasting_answer board found.0 0 found.1 some found.2 in (
        answer.0,
        answer.1.is_label,
        λ depth. after_answer board found.0 0 answer.0 found.1 some answer.1.is_label depth (answer.2 depth),
      ),
  λ found. (replicate board.pebbles found.0, length-replicate {A = ℕ} board.pebbles found.0, found.2),
)

-- ---- from no labels

module _ (board : PlainBoard) (some : 0 < board.pebbles) where
  abbrev none_held : List ℕ
  none_held = replicate board.pebbles board.labels

  none_long : length none_held ≡ board.pebbles
  none_long = length-replicate {A = ℕ} board.pebbles board.labels

  first_answer : (depth : ℕ) → LabellerTree board (suc depth) none_held
      → (label : ℕ) × (label < board.labels) × LabellerTree board depth (replicate board.pebbles label)
  first_answer depth tree =
      let answer = tree 0 some in (
        answer.0,
        answer.1.is_label,
        after_answer board none_held 0 answer.0 none_long some answer.1.is_label depth answer.2,
      )

  first_is_free : (depth label : ℕ) → label < board.labels → LabellerTree board depth (replicate board.pebbles label)
      → LabellerTree board (suc depth) none_held
  first_is_free depth label is_label tree =
      λ pebble below. (
        label,
        record {
          is_label = is_label;
          dominates = λ other other_below differs low.
              let none : get_or none_held other 0 ≡ board.labels
              = get_or-replicate board.pebbles other board.labels 0 other_below in
              absurd (omega (arith, none, low));
        },
        led_lasts board board (λ n. n) (λ n. n) (itself board board refl refl refl) depth
            (replicate board.pebbles label) (moved none_held pebble label)
            (record {
              long = length-replicate {A = ℕ} board.pebbles label;
              led_long = length-set none_held pebble label ∙ none_long;
              each = λ other other_below.
                  let held : get_or (replicate board.pebbles label) other 0 ≡ label
                  = get_or-replicate board.pebbles other label 0 other_below in
                  elim (cases_eq other pebble) [
                    | inl same ↦ inl (
                      subst (λ n. n < board.labels) (sym held) is_label,
                      get_or-set_at none_held pebble other label 0 same (omega (arith, none_long, below)) ∙ sym held,
                    )
                    | inr differs ↦ inr (subst (λ n. board.labels ≤ n)
                        (sym (get_or-set_other none_held pebble other label 0 differs
                        ∙ get_or-replicate board.pebbles other board.labels 0 other_below))
                        (omega arith))
                  ];
            }) tree,
      )

  pub first_trees : (depth : ℕ) → LabellerTree board (suc depth) none_held
      ↔ ((label : ℕ) × (label < board.labels) × LabellerTree board depth (replicate board.pebbles label))
  first_trees depth = (first_answer depth, λ found. first_is_free depth found.0 found.1 found.2)

  ends_after : (number label : ℕ) → AdversaryTree board (suc (suc number)) none_held → label < board.labels
      → AdversaryTree board (suc number) (replicate board.pebbles label)
  ends_after number label tree is_label =
      elim (some_tree board (suc number) (replicate board.pebbles label)) [
        | inr ends ↦ ends
        | inl lasts ↦ absurd (not_both_trees board (suc (suc number)) none_held
            (first_is_free (suc number) label is_label lasts) tree)
      ]

  value_from_none : (number : ℕ) → HasValue board none_held (Finite (suc number))
      ↔ (((label : ℕ) × (label < board.labels) × HasValue board (replicate board.pebbles label) (Finite number))
      × ((label : ℕ) → label < board.labels → HasValueAtMost board (replicate board.pebbles label) number))
  value_from_none number = (
    λ has.
        let first = first_answer number has.0 in (
          (first.0, first.1, (first.2, ends_after number first.0 has.1 first.1)),
          λ label is_label. at_most_from_tree board number (replicate board.pebbles label)
              (ends_after number label has.1 is_label),
        ),
    λ both. (
      first_is_free number both.0.0 both.0.1 both.0.2.0,
      elim (some_tree board (suc (suc number)) none_held) [
        | inr ends ↦ ends
        | inl lasts ↦
            let first = first_answer (suc number) lasts in
            let bound = both.1 first.0 first.1 in
            absurd (not_both_trees board (suc bound.0) (replicate board.pebbles first.0)
            (lasts_at_most board (replicate board.pebbles first.0) (suc bound.0) (suc number)
            (omega (arith, bound.1)) first.2) bound.2.1)
      ],
    ),
  )

-- no adversary asks a pebble that isn't there
pub first_value : (board : PlainBoard) (number : ℕ)
    → HasValue board (replicate board.pebbles board.labels) (Finite (suc number))
    ↔ (((label : ℕ) × (label < board.labels) × HasValue board (replicate board.pebbles label) (Finite number))
    × ((label : ℕ) → label < board.labels → HasValueAtMost board (replicate board.pebbles label) number))
first_value board number =
    elim (cases_lt 0 board.pebbles) [
      | inl some ↦ value_from_none board some number
      | inr none ↦ (
        λ has. absurd (omega (arith, none, has.1.1)),
        λ both. absurd (omega (arith, none, both.0.2.1.1)),
      )
    ]

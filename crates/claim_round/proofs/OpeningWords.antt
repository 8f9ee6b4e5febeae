-- The state before the first step: the words, and the configurations to strike.
use Rattle.std.proofs.Common.{◌≡◌, ℕ, ◌*◌, ◌<◌, ◌≤◌, List, [], ◌∷◌, ◌++◌, map, length, take, drop, refl}
use Rattle.std.proofs.Common.{mul-le-mul_left, sym, ap, ◌∙◌, subst, inl, inr, arith, length-append, length-take}
use Rattle.std.proofs.Common.{length-drop}
use Rattle.graphs.specs.Numbered.{graph_of}
use Rattle.std.specs.List.{filter}
use Rattle.std.proofs.lemmas.List.{drop_at, length-map, take_at}
use Rattle.std.proofs.lemmas.List.Elements.{All-push}
use Rattle.index_lists.specs.Lists.{times}
use Rattle.index_lists.proofs.Cited.{distinct-length}
use Rattle.solver.specs.Solving.{Solving, IsSolving, bucket, to_strike}
use Rattle.solver.specs.Words.{value_of_word, AreFirstCounts, AreFirstValues}
use Rattle.graphs.specs.Graph.{PlainGraph, is_struck}
use Rattle.graphs.proofs.Cited.{same_or_not}
use Rattle.solver.proofs.Cited.{is-struck, times-filter-true, times-filter-le}
use Rattle.retro_core.specs.Round.{IsDue, opening_round}
use Rattle.retro_core.proofs.Cited.{opening-lawful}
use Rattle.claim_round.specs.Shared.{Key, View}
use Rattle.claim_round.specs.History.{AreTold}
use Rattle.claim_round.specs.Rule.{KnowsRound, Kept, most_members}
use Rattle.claim_round.specs.Inside.Openings.{AreOpeningWords, opening_view}

-- the counts and the words of a solver, one after the other, are those of an opening
pub words-are : (s : Solving) (counts values words : List ℕ) → length counts ≡ (graph_of s.game).gaps
    → length values ≡ (graph_of s.game).configurations
    → AreFirstCounts s counts → AreFirstValues s (map value_of_word values) → words ≡ counts ++ values
    → AreOpeningWords s words
words-are s counts values words counts_long values_long counted valued is = record {
  size = ap length is ∙ length-append counts values ∙ (omega arith);
  counts = subst (AreFirstCounts s)
      (sym (ap (take ((graph_of s.game).gaps)) is
      ∙ take_at counts values ((graph_of s.game).gaps) counts_long)) counted;
  values = subst (λ (l : List ℕ). AreFirstValues s (map value_of_word l))
      (sym (ap (drop ((graph_of s.game).gaps)) is ∙ drop_at counts values ((graph_of s.game).gaps) counts_long)) valued;
}

-- ---- the configurations to strike at the opening

pub record AreDueAll (s : Solving) (ranks : List ℕ) : Type 0 where
  pub is : ranks ≡ s.due
  pub due : (x : ℕ) → 0 < times x ranks → IsDue s.game x s.rounds
  pub once : (x : ℕ) → times x ranks ≤ 1
  pub few : length ranks ≤ (graph_of s.game).configurations

pub ranks_due : (s : Solving) (ranks : List ℕ) → IsSolving s → ranks ≡ to_strike s → AreDueAll s ranks
ranks_due s ranks sol is =
    let a : PlainGraph = graph_of s.game in
    let once : (x : ℕ) → times x ranks ≤ 1 = λ x.
    let e = ap (times x) is in let l = times-filter-le (is_struck a) x (bucket s s.rounds) in let o =
    sol.buckets.once s.rounds x in omega arith in
    let due : (x : ℕ) → 0 < times x ranks → IsDue s.game x s.rounds = λ x h.
    let h' : 0 < times x (filter (is_struck a) (bucket s s.rounds)) = subst (λ (l : List ℕ). 0 < times x l) is h in
    let there : 0 < times x (bucket s s.rounds) =
    (let l = times-filter-le (is_struck a) x (bucket s s.rounds) in omega arith) in
    let i = sol.buckets.ranks s.rounds x there in
    record {
      worth = record { is_rank = i; has_value = ((sol.buckets.filed s.rounds x i).0 there).1 };
      struck = is-struck a x (times-filter-true (is_struck a) x (bucket s s.rounds) h');
    } in
    record {
      is = is ∙ sym sol.due;
      due = due;
      once = once;
      few = distinct-length a.configurations ranks once (λ x high. elim (same_or_not (times x ranks) 0) [
        | inl never ↦ never
        | inr once_or_more ↦ absurd (let low = (due x (omega arith)).worth.is_rank in omega arith)
      ]);
    }

-- ---- the opening keeps the rule

pub opened : (s : Solving) (width : ℕ) (words : List ℕ) → IsSolving s → 0 < width → AreOpeningWords s words
    → Kept (record { solving = s; width = width })
    (record { words = words; homes = []; views = opening_view (record { solving = s; width = width }) ∷ [] })
opened s width words sol some are =
    let G : ℕ = (graph_of s.game).gaps in
    let k : Key = record { solving = s; width = width } in
    let size_is = are.size in
    let counts : List ℕ = take G words in
    let counts_length : length counts ≡ G = length-take G words ∙ (omega arith) in
    let values_length : length (map value_of_word (drop G words)) ≡ (graph_of s.game).configurations =
    length-map (drop G words) value_of_word ∙ length-drop G words ∙ (omega arith) in
    let short : length s.due ≤ (graph_of s.game).configurations = (ranks_due s s.due sol sol.due).few in
    record {
      solving = sol;
      history = record {
        first = opening_round s width counts (map value_of_word (drop G words)) s.due;
        steps = [];
        opens = opening-lawful s sol width counts
            (map value_of_word (drop G words)) s.due some counts_length values_length are.counts are.values sol.due;
        counted = are.counts;
        leads = refl;
        told = All-push (λ (v : View). AreTold [] v.made × (v.since ≤ 0)) [] (opening_view k)
            (λ i d below. absurd (omega arith)) ((λ i d below. absurd (omega arith)), omega arith);
        once = λ place. refl;
      };
      knows = All-push (KnowsRound k) [] (opening_view k) (λ i d below. absurd (omega arith))
          (record { round = λ _. refl; nothing = λ _. refl });
      few = (let m : most_members k * length s.due ≤ most_members k * (graph_of s.game).configurations =
          mul-le-mul_left (most_members k) short in omega arith);
    }

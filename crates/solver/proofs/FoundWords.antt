-- The words of a solver that is done are those of the values of configurations.
use Rattle.std.proofs.Common.{◌≡◌, ◌≢◌, ℕ, ◌<◌, inl, inr, true, false, suc, refl, arith, sym, subst, length}
use Rattle.std.proofs.Common.{slice_index}
use Rattle.positions.specs.Value.{HasValue}
use Rattle.gap_values.proofs.Cited.{round-finite, round-none}
use Rattle.graphs.specs.Numbered.{Numbered, graph_of, configuration_of}
use Rattle.graphs.proofs.Cited.{forever_of_lasts, true_or_false, value_of_lasts}
use Rattle.solver.specs.Inside.Stage.{PlainStage, IsState}
use Rattle.solver.specs.Inside.Tables.{is_open}
use Rattle.solver.specs.Words.{AreValueWords}
use Rattle.gap_values.specs.declared.closing.TheConstants.{OPEN}
use Rattle.solver.proofs.ListedWords.{open_word, valued_word}
use Rattle.solver.proofs.States.{forever-of, open-lasts, round-below, word-few}

module _ (s : PlainStage) (round : ℕ) (st : IsState s round true) where
  abbrev n : Numbered
  n = s.game

  word-small : (x : ℕ) → x < (graph_of n).configurations → is_open s.values x ≡ false
      → slice_index s.values x < 1048576
  word-small x i shut =
      let low = word-few s round true st x i shut in
      let below = round-below s round true st in
      let most = st.few in
      omega (arith, low, below, most)

  -- a word that is a value is no greater than the last round
  pub words-inside : (x : ℕ) → x < length s.values → slice_index s.values x ≢ OPEN → slice_index s.values x < suc round
  words-inside x inside valued =
      let long = st.stage.words_are.values_length in
      let low = word-few s round true st x (omega (arith, inside, long)) (valued_word s.values x valued) in
      omega (arith, low)

  pub words-of : AreValueWords n s.values
  words-of = record {
    size = st.stage.words_are.values_length;
    each = λ x i. elim (true_or_false (is_open s.values x)) [
      | inl still ↦
          subst (HasValue n.board (configuration_of n x))
          (sym (round-none (slice_index s.values x) (omega (arith, open_word s.values x still))))
          (forever_of_lasts n st.is_board x i (forever-of s round true st refl x i (open-lasts s round true st x i
          still)))
      | inr shut ↦
          subst (HasValue n.board (configuration_of n x))
          (sym (round-finite (slice_index s.values x) (omega (arith, word-small x i shut))))
          (value_of_lasts n st.is_board (slice_index s.values x) x i (st.stage.words_are.lasting x i shut)
          (st.stage.words_are.stopping x i shut))
    ];
    few = λ x i finite. word-small x i (valued_word s.values x finite);
  }

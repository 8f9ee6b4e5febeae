-- The lines of spans of ranks that follow one another, as those of a section.
use Rattle.std.proofs.Common.{◌≡◌, ℕ, zero, suc, ◌+◌, ◌-◌, ◌*◌, ◌/◌, ◌%◌, min, ◌<◌, ◌≤◌, Bool, List, [], ◌∷◌, ◌++◌}
use Rattle.std.proofs.Common.{get_or, length}
use Rattle.std.proofs.Common.{map, Result, Ok, Err, refl, sym, ap, ◌∙◌, subst, arith, inl, inr, length-append}
use Rattle.std.specs.Prelude.{IfOk, MatchResult, Contains}
use Rattle.std.specs.List.{AllPairs, AllZip, flat_map, range_with_len, sum_by}
use Rattle.std.proofs.lemmas.Bool.{cases_lt}
use Rattle.std.proofs.lemmas.Grind.{div_ceil_times}
use Rattle.std.proofs.lemmas.List.Concat.{flat_map-append, flat_map-cons}
use Rattle.std.proofs.lemmas.List.Elements.{Contains-append_cases, Contains-append_left, Contains-append_right}
use Rattle.std.proofs.lemmas.List.Elements.{Contains-get_or, Contains-push}
use Rattle.std.proofs.lemmas.List.Kept.{AllPairs-cons}
use Rattle.std.proofs.lemmas.List.Sums.{sum_by-cons}
use Rattle.board_text.specs.PlainBoard.{PlainBoard}
use Rattle.positions.specs.Ranks.{configurations}
use Rattle.strategies.specs.declared.lines.Lines.{Lines}
use Rattle.strategies.specs.Inside.Lines.{AreLinesBetween, AreSectionLines}
use Rattle.strategies.specs.Inside.Marks.{AreListed, IsMarked}
use Rattle.strategies.specs.Inside.Numbering.{by_rank}
use Rattle.strategies.specs.Inside.Side.{Side, AreReached, AreRowsAt}
use Rattle.strategies.proofs.OneList.{behind_first, tail_ascends}
use Rattle.strategies.proofs.Numberings.{are_ranks, ranks_end}
use Rattle.strategies.proofs.RowsAt.{rows_append, section_of_marks}

-- each span has its ranks, and all have no more than are there and one span more
pub within_spans : (all size count span : ℕ) → 0 < size → count ≡ all / size + min 1 (all % size) → span < count
    → span * size + size < all + size
within_spans all size count span some count_is low =
    let whole = div_ceil_times all size some in
    let rest : ℕ = count - suc span in
    let split : count ≡ suc span + rest = omega (arith, low) in
    let more : count * size ≡ span * size + size + rest * size = ap (λ n. n * size) split ∙ omega arith in
    let few : count * size < all + size = subst (λ n. n * size < all + size) (sym count_is) whole.1 in
    omega (arith, more, few)

-- the spans have all ranks
pub enough_spans : (all size count : ℕ) → 0 < size → count ≡ all / size + min 1 (all % size) → all ≤ count * size
enough_spans all size count some count_is =
    subst (λ n. all ≤ n * size) (sym count_is) (div_ceil_times all size some).0

-- two ascending lists of numbers, those of the one below those of the other
ascend_on : (xs ys : List ℕ) → AllPairs (λ one other. one < other) xs → AllPairs (λ one other. one < other) ys
    → ((x y : ℕ) → Contains xs x → Contains ys y → x < y) → AllPairs (λ one other. one < other) (xs ++ ys)
ascend_on [] ys first second below = second
ascend_on (x ∷ xs) ys first second below = AllPairs-cons (λ one other. one < other) x (xs ++ ys)
    (λ k d inside. elim (Contains-append_cases xs ys (get_or (xs ++ ys) k d) (Contains-get_or (xs ++ ys) k d inside)) [
      | inl among ↦ behind_first (λ n. n) x xs (get_or (xs ++ ys) k d) first among
      | inr among ↦ below x (get_or (xs ++ ys) k d) (Contains-append_left (x ∷ []) xs x (Contains-push [] x)) among
    ])
    (ascend_on xs ys (tail_ascends (λ n. n) x xs first) second
    (λ one other among also. below one other (Contains-append_right (x ∷ []) xs one among) also))

-- the numbers of one span and of the next
listed_on : (P : ℕ → Type 0) (first mid end : ℕ) (xs ys : List ℕ) → first ≤ mid → mid ≤ end
    → AreListed P first mid xs → AreListed P mid end ys → AreListed P first end (xs ++ ys)
listed_on P first mid end xs ys before after one other = record {
  each = λ number. (
    λ among. elim (Contains-append_cases xs ys number among) [
      | inl here ↦
          let is = (one.each number).0 here in
          let low : number < mid = is.2 in (is.0, is.1, omega arith)
      | inr there ↦
          let is = (other.each number).0 there in
          let high : mid ≤ number = is.1 in (is.0, omega arith, is.2)
    ],
    λ is. elim (cases_lt number mid) [
      | inl low ↦ Contains-append_left xs ys number ((one.each number).1 (is.0, is.1, low))
      | inr high ↦ Contains-append_right xs ys number ((other.each number).1 (is.0, high, is.2))
    ],
  );
  ascending = ascend_on xs ys one.ascending other.ascending (λ x y among also.
      let low : x < mid = ((one.each x).0 among).2 in
      let high : mid ≤ y = ((other.each y).0 also).1 in
      omega arith);
}

module _ {R : Type 0} (board : PlainBoard) (side : Side R) (line : R → List ℕ) (marks : List Bool) where
  -- the lines of the rows at the marked ranks from the first to before the end, in parts
  record AreSpanLines (first end : ℕ) (parts : List Lines) : Type 0 where
    ranks : List ℕ
    listed : AreListed (IsMarked marks) first end ranks
    rows : List R
    are_rows : AreRowsAt (by_rank board) side ranks rows
    bytes_are : flat_map (λ (part : Lines). part.bytes.items) parts ≡ flat_map line rows
    count_is : sum_by (λ (part : Lines). part.rows) parts ≡ length rows

  no_span : (first : ℕ) → AreSpanLines first first []
  no_span first = record {
    ranks = [];
    listed = record {
      each = λ number. (
        λ among. absurd (let inside : among.0 < 0 = among.1 in omega arith),
        λ is. absurd (let low : first ≤ number = is.1 in let high : number < first = is.2 in omega arith),
      );
      ascending = λ i j d less inside. absurd (omega arith);
    };
    rows = [];
    are_rows = refl;
    bytes_are = refl;
    count_is = refl;
  }

  next_span : (first mid end : ℕ) (part : Lines) (parts : List Lines) → first ≤ mid → mid ≤ end
      → AreLinesBetween board side line marks first mid part → AreSpanLines mid end parts
      → AreSpanLines first end (part ∷ parts)
  next_span first mid end part parts before after one others = record {
    ranks = one.ranks ++ others.ranks;
    listed = listed_on (IsMarked marks) first mid end one.ranks others.ranks before after one.listed others.listed;
    rows = one.are_lines.rows ++ others.rows;
    are_rows = rows_append (by_rank board) side one.ranks others.ranks one.are_lines.rows
        others.rows one.are_lines.are_rows
        others.are_rows;
    bytes_are = flat_map-cons (λ (p : Lines). p.bytes.items) part parts
        ∙ (λ i. one.are_lines.bytes_are i ++ others.bytes_are i)
        ∙ sym (flat_map-append line one.are_lines.rows others.rows);
    count_is = omega (
      arith,
      one.are_lines.count_is,
      others.count_is,
      sum_by-cons (λ (p : Lines). p.rows) part parts,
      length-append one.are_lines.rows others.rows,
    );
  }

  -- spans of one size, from the first to before the end
  spans : (size count first : ℕ) (parts : List Lines)
      → AllZip (λ span part. AreLinesBetween board side line marks (span * size) (span * size + size) part)
      (range_with_len first count) parts
      → AreSpanLines (first * size) ((first + count) * size) parts
  spans size zero first [] are = subst (λ n. AreSpanLines (first * size) (n * size) []) (omega arith)
      (no_span (first * size))
  spans size zero first (part ∷ parts) are = absurd are
  spans size (suc count) first [] are = absurd are
  spans size (suc count) first (part ∷ parts) are =
      let others = spans size count (first + 1) parts are.1 in
      let step : (first + 1) * size ≡ first * size + size = omega arith in
      let same : first + 1 + count ≡ first + suc count = omega arith in
      let ends : (first + 1 + count) * size ≡ (first + suc count) * size = ap (λ n. n * size) same in
      let more : (first + suc count) * size ≡ first * size + size + count * size = omega arith in
      next_span (first * size) (first * size + size) ((first + suc count) * size) part parts (omega arith)
      (omega (arith, more)) are.0
      (subst (λ n. AreSpanLines (first * size + size) n parts) ends
      (subst (λ n. AreSpanLines n ((first + 1 + count) * size) parts) step others))

  -- spans that have all ranks
  all_spans : (size count : ℕ) (parts : List Lines) → AreReached (by_rank board) board side (IsMarked marks)
      → configurations board ≤ count * size
      → AllZip (λ span part. AreLinesBetween board side line marks (span * size) (span * size + size) part)
      (range_with_len 0 count) parts
      → AreSectionLines board side line parts
  all_spans size count parts reached enough are =
      let none : 0 * size ≡ 0 = omega arith in
      let all : 0 + count ≡ count = omega arith in
      let whole : AreSpanLines 0 (count * size) parts = subst (λ n. AreSpanLines n (count * size) parts) none
      (subst (λ n. AreSpanLines (0 * size) (n * size) parts) all (spans size count 0 parts are)) in record {
        rows = whole.rows;
        are_rows = section_of_marks board (by_rank board) (are_ranks board) side marks (count * size) whole.ranks
            whole.rows reached
            (ranks_end board (count * size) enough) whole.listed
            whole.are_rows;
        bytes_are = whole.bytes_are;
        count_is = whole.count_is;
      }

  made_of : (E : Type 0) (Is : ℕ → Lines → Type 0) (numbers : List ℕ) (parts : List Lines)
      → AllZip (λ span (made : Result Lines E). IfOk made (Is span)) numbers (map Ok parts) → AllZip Is numbers parts
  made_of E Is [] [] are = tt
  made_of E Is [] (part ∷ parts) are = absurd are
  made_of E Is (span ∷ numbers) [] are = absurd are
  made_of E Is (span ∷ numbers) (part ∷ parts) are = (are.0, made_of E Is numbers parts are.1)

  -- the lines that were made of each span, unless one was refused memory
  pub joined : {E V : Type 0} (items : V → List Lines) (size count : ℕ) → AreReached (by_rank board) board side
      (IsMarked marks)
      → configurations board ≤ count * size → (made : List (Result Lines E))
      → AllZip (λ span (lines : Result Lines E). IfOk lines
      (AreLinesBetween board side line marks (span * size) (span * size + size))) (range_with_len 0 count) made
      → (lines : Result V E)
      → MatchResult lines (λ v. (parts : List Lines) × (made ≡ map Ok parts) × (items v ≡ parts))
      (λ e. Contains made (Err e))
      → IfOk lines (λ v. AreSectionLines board side line (items v))
  joined items size count reached enough made are (Err e) gathered = tt
  joined {E} items size count reached enough made are (Ok v) gathered =
      subst (AreSectionLines board side line) (sym gathered.2)
      (all_spans size count gathered.0 reached enough
      (made_of E (λ span. AreLinesBetween board side line marks (span * size) (span * size + size))
      (range_with_len 0 count)
      gathered.0
      (subst (AllZip (λ span (lines : Result Lines E). IfOk lines
      (AreLinesBetween board side line marks (span * size) (span * size + size))) (range_with_len 0 count)) gathered.1
      are)))

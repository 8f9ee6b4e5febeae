-- The labels above one label: they carry one pebble fewer, and their chains are shorter by one label.
use Rattle.std.proofs.Common.{◌≡◌, ℕ, zero, suc, ◌<◌, List, [], ◌∷◌, ◌++◌, length, map}
use Rattle.std.proofs.Common.{All, Contains, refl, sym, ◌∙◌, ap, subst, arith, inl, inr}
use Rattle.std.specs.List.{remove}
use Rattle.std.proofs.lemmas.List.{length-append, length-map}
use Rattle.std.proofs.lemmas.List.Edits.{remove-append_left}
use Rattle.std.proofs.lemmas.List.Elements.{All-append, All-cons, All-contains, All-map, All-nil}
use Rattle.std.proofs.lemmas.List.Elements.{Contains-append_left, Contains-append_right}
use Rattle.nested_cycles.proofs.Cited.{contains_cases, contains_here, contains_later, contains_map, each_of}
use Rattle.board_text.specs.PlainBoard.{PlainBoard, Dominates}
use Rattle.chains.specs.Chains.{AreChained, AreChainsDominated}
use Rattle.domains.specs.Families.{IsClosedFamily, IsCovered}
use Rattle.domains.specs.Used.{AreAbove, IsUsed, KeepsAbove}
use Rattle.domains.proofs.ClosedFamilies.{covered_last, put_covered}
use Rattle.domains.proofs.LastingChains.{LastingChain, chain_above, chain_answered, chain_without, chained_more}
use Rattle.domains.proofs.LastingChains.{chained_none, chained_rest, first_beats, oldest_of}
use Rattle.domains.proofs.SharedLabels.{all_on_one}

-- each label of a chain but the oldest beats the oldest
newer_beat : (board : PlainBoard) (newer : List ℕ) (oldest other : ℕ) → AreChained board (newer ++ oldest ∷ [])
    → Contains newer other → Dominates board other oldest
newer_beat board [] oldest other chained has = absurd (omega (arith, has.1))
newer_beat board (label ∷ newer) oldest other chained has =
    elim (contains_cases label newer other has) [
      | inl same ↦ subst (λ n. Dominates board n oldest) same
          (first_beats board label oldest (newer ++ oldest ∷ []) chained
          (Contains-append_right newer (oldest ∷ []) oldest (contains_here oldest [])))
      | inr later ↦ newer_beat board newer oldest other (chained_rest board label (newer ++ oldest ∷ []) chained) later
    ]

map_without : (f : ℕ → ℕ) (xs : List ℕ) (index : ℕ) → map f (remove xs index) ≡ remove (map f xs) index
map_without f [] zero = refl
map_without f [] (suc index) = refl
map_without f (x ∷ xs) zero = refl
map_without f (x ∷ xs) (suc index) = ap (λ ys. f x ∷ ys) (map_without f xs index)

module _ (board part : PlainBoard) (image : ℕ → ℕ) (label count : ℕ) (more : board.pebbles ≡ suc (suc count))
    (keeps : KeepsAbove board part label image) where
  fewer : part.pebbles ≡ suc count
  fewer = omega (arith, more, keeps.pebbles)

  -- the images of a chain above the label
  record IsImage (labels : List ℕ) : Type 0 where
    newer : List ℕ
    lasting : LastingChain board 1 (newer ++ label ∷ [])
    is : labels ≡ map image newer

  newer_long : (newer : List ℕ) → LastingChain board 1 (newer ++ label ∷ []) → length newer ≡ count
  newer_long newer lasting = omega (arith, lasting.long, more, length-append newer (label ∷ []))

  oldest_in : (newer : List ℕ) → Contains (newer ++ label ∷ []) label
  oldest_in newer = Contains-append_right newer (label ∷ []) label (contains_here label [])

  -- the label that is put on such a chain
  record Put (newer : List ℕ) : Type 0 where
    answer : ℕ
    low : answer < board.labels
    beats : Dominates board answer label
    image_low : image answer < part.labels
    image_beats : All (λ other. Dominates part (image answer) other) (map image newer)
    again : (index : ℕ) → index < count → IsImage (image answer ∷ remove (map image newer) index)

  put : (newer : List ℕ) → LastingChain board 1 (newer ++ label ∷ []) → Put newer
  put newer lasting =
      let chain = newer ++ label ∷ [] in
      let found = chain_answered board 0 chain lasting in
      let above : (other : ℕ) → Contains chain other → Dominates board found.0 other
      = λ other has. All-contains (λ n. Dominates board found.0 n) chain other found.2 has in
      let beats = above label (oldest_in newer) in
      let long = newer_long newer lasting in
      record {
        answer = found.0;
        low = found.1;
        beats = beats;
        image_low = keeps.labels found.0 found.1 beats;
        image_beats = All-map (λ other. Dominates part (image found.0) other) image newer
            (each_of (λ other. Dominates part (image found.0) (image other)) newer (λ other has.
            let there : Contains chain other = Contains-append_left newer (label ∷ []) other has in
            keeps.beats found.0 other found.1
            (All-contains (λ n. n < board.labels) chain other lasting.chained.are_labels there)
            beats (newer_beat board newer label other lasting.chained has) (above other there)));
        again = λ index below. record {
          newer = found.0 ∷ remove newer index;
          lasting = subst (λ xs. LastingChain board 1 (found.0 ∷ xs))
              (remove-append_left newer (label ∷ []) index (omega (arith, below, long)))
              (chain_without board 0 (found.0 ∷ chain) (suc index)
              (omega (arith, below, long, length-append newer (label ∷ []))) found.3);
          is = ap (λ xs. image found.0 ∷ xs) (sym (map_without image newer index));
        };
      }

  image_closed : IsClosedFamily part count IsImage
  image_closed = record {
    long = λ labels its. ap length its.is ∙ (length-map its.newer image ∙ newer_long its.newer its.lasting);
    answered = λ labels its.
        let its_put = put its.newer its.lasting in (
          image its_put.answer,
          its_put.image_low,
          subst (All (λ other. Dominates part (image its_put.answer) other)) (sym its.is) its_put.image_beats,
          λ index below. subst (λ xs. IsImage (image its_put.answer ∷ remove xs index)) (sym its.is)
              (its_put.again index below),
        );
  }

  pub used_above : IsUsed board label
      → (other : ℕ) × (other < board.labels) × Dominates board other label × IsUsed part (image other)
  used_above used =
      let found = chain_above board label count more used.0 used.1 in
      let its_put = put found.0 found.1 in
      let images : List ℕ = map image found.0 in
      let long : length images ≡ count = length-map found.0 image ∙ newer_long found.0 found.1 in
      let start : List ℕ = image its_put.answer ∷ images in
      let covered : IsCovered part IsImage start
      = put_covered part IsImage (image its_put.answer) images (omega (arith, long, fewer))
      (record { newer = found.0; lasting = found.1; is = refl })
      (λ index inside. its_put.again index (omega (arith, inside, long))) in (
        its_put.answer,
        its_put.low,
        its_put.beats,
        (
          its_put.image_low,
          λ depth. all_on_one part start 0 (image its_put.answer) covered.long (omega (arith, fewer))
              its_put.image_low refl
              depth (covered_last part count IsImage fewer image_closed start covered depth),
        ),
      )

-- ---- chains of the labels above each label

module _ (board part : PlainBoard) (label : ℕ) (to back : ℕ → ℕ) (above : AreAbove board part label to back) where
  names_chained : (newer : List ℕ) → AreChained board (newer ++ label ∷ []) → AreChained part (map to newer)
  names_chained [] chained = chained_none part
  names_chained (next ∷ newer) chained =
      let chain = newer ++ label ∷ [] in
      let low : (other : ℕ) → Contains (next ∷ chain) other → other < board.labels
      = λ other has. All-contains (λ n. n < board.labels) (next ∷ chain) other chained.are_labels has in
      let next_low = low next (contains_here next chain) in
      let over : (other : ℕ) → Contains (next ∷ newer) other → Dominates board other label
      = λ other has. newer_beat board (next ∷ newer) label other chained has in
      let next_over = over next (contains_here next newer) in
      chained_more part (to next) (map to newer) (above.there next next_low next_over)
      (All-map (λ other. Dominates part (to next) other) to newer
      (each_of (λ other. Dominates part (to next) (to other)) newer (λ other has.
      let inside : Contains chain other = Contains-append_left newer (label ∷ []) other has in
      (above.beats next other next_low (low other (contains_later next chain other inside)) next_over
      (over other (contains_later next newer other has))).0
      (first_beats board next other chain chained inside))))
      (names_chained newer (chained_rest board next chain chained))

pub dominated_above : (board : PlainBoard) (count : ℕ) → 0 < board.labels
    → ((label : ℕ) → label < board.labels → (part : PlainBoard) × (to : ℕ → ℕ) × (back : ℕ → ℕ)
    × AreAbove board part label to back × AreChainsDominated part count)
    → AreChainsDominated board (suc count)
dominated_above board count some each [] short chained = (0, some, All-nil (λ other. Dominates board 0 other))
dominated_above board count some each (first ∷ chain) short chained =
    let its = oldest_of first chain in
    let whole = its.0 ++ its.1 ∷ [] in
    let ordered : AreChained board whole = subst (AreChained board) its.2 chained in
    let long : length whole ≡ suc (length chain) = ap length (sym its.2) in
    let low : (other : ℕ) → Contains whole other → other < board.labels
    = λ other has. All-contains (λ n. n < board.labels) whole other ordered.are_labels has in
    let last : Contains whole its.1 = Contains-append_right its.0 (its.1 ∷ []) its.1 (contains_here its.1 []) in
    let over = each its.1 (low its.1 last) in
    let found = over.4 (map over.1 its.0)
    (omega (arith, short, long, length-append its.0 (its.1 ∷ []), length-map its.0 over.1))
    (names_chained board over.0 its.1 over.1 over.2 over.3 its.0 ordered) in
    let label = over.2 found.0 in
    let again = over.3.again found.0 found.1 in (
      label,
      again.0,
      subst (All (λ other. Dominates board label other)) (sym its.2)
          (All-append (λ other. Dominates board label other) its.0 (its.1 ∷ [])
          (each_of (λ other. Dominates board label other) its.0 (λ other has.
          (over.3.beats label other again.0 (low other (Contains-append_left its.0 (its.1 ∷ []) other has)) again.1
          (newer_beat board its.0 its.1 other ordered has)).1
          (subst (λ n. Dominates over.0 n (over.1 other)) (sym again.2)
          (All-contains (λ n. Dominates over.0 found.0 n) (map over.1 its.0) (over.1 other) found.2
          (contains_map over.1 its.0 other has)))))
          (All-cons (λ other. Dominates board label other) its.1 [] again.1
          (All-nil (λ other. Dominates board label other)))),
    )

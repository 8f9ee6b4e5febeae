-- The squares modulo 7, 19 and 47 have a map as double covers need: t goes to -1 / t, found by a search.
use Rattle.std.proofs.Common.{ℕ, suc, ◌+◌, ◌*◌, ◌<◌, ◌^◌, List, [], ◌∷◌, get_or, refl, sym, subst, arith}
use Rattle.board_text.specs.PlainBoard.{PlainBoard, IsAntisymmetric}
use Rattle.domains.specs.Carried.{CarriesExactly, SomeCarries}
use Rattle.chains.specs.Chains.{AreChainsDominated}
use Rattle.domains.specs.Circles.{IsCircle}
use Rattle.domains.specs.DoubleCovers.{IsDoubleCover}
use Rattle.domains.specs.Used.{AreAbove}
use Rattle.domains.proofs.ChainsAbove.{dominated_above}
use Rattle.domains.proofs.DoubleCovers.{IsTurned, above_cover, cover_board}
use Rattle.domains.proofs.ExactCounts.{chains_exactly}
use Rattle.domains.proofs.FewestLabels.{Ahead, circle_board, residues_one_way}
use Rattle.domains.proofs.ResiduesModuloFortySeven.{forty_seven_dominated, forty_seven_one_way}
use Rattle.domains.proofs.ResiduesModuloNineteen.{nineteen_one_way}
use Rattle.domains.proofs.SmallDomains.{nineteen_chains, product_carries, residues_chains}

seven_turns : List ℕ
seven_turns =
    0 ∷ 6 ∷ 3 ∷ 2 ∷ 5 ∷ 4 ∷ 1 ∷ []

seven_turned : IsTurned 7
    (1 ∷ 2 ∷ 4 ∷ [])
    (λ t. get_or seven_turns t 0)
unfolding seven_turns
seven_turned = record {
  some = omega arith;
  itself = λ a low. omega (arith, low);
  from_none = λ t low. omega (arith, low);
  between = λ x y a x_low y_low low. omega (arith, x_low, y_low, low);
  restored = λ a t low t_low. omega (arith, low, t_low);
  no_zero = refl;
  no_whole = refl;
  ones = refl;
  twos = refl;
}

nineteen_turns : List ℕ
nineteen_turns =
    0 ∷ 18 ∷ 9 ∷ 6 ∷ 14 ∷ 15 ∷ 3 ∷ 8 ∷ 7 ∷ 2 ∷ 17 ∷ 12 ∷ 11 ∷ 16 ∷ 4 ∷ 5 ∷ 13 ∷ 10 ∷ 1 ∷ []

nineteen_turned : IsTurned 19
    (1 ∷ 4 ∷ 5 ∷ 6 ∷ 7 ∷ 9 ∷ 11 ∷ 16 ∷ 17 ∷ [])
    (λ t. get_or nineteen_turns t 0)
unfolding nineteen_turns
nineteen_turned = record {
  some = omega arith;
  itself = λ a low. omega (arith, low);
  from_none = λ t low. omega (arith, low);
  between = λ x y a x_low y_low low. omega (arith, x_low, y_low, low);
  restored = λ a t low t_low. omega (arith, low, t_low);
  no_zero = refl;
  no_whole = refl;
  ones = refl;
  twos = refl;
}

forty_seven_turns : List ℕ
forty_seven_turns =
    0 ∷ 46 ∷ 23 ∷ 31 ∷ 35 ∷ 28 ∷ 39 ∷ 20 ∷ 41 ∷ 26 ∷ 14 ∷ 17 ∷ 43 ∷ 18 ∷ 10 ∷ 25 ∷ 44 ∷ 11 ∷ 13 ∷ 42 ∷ 7 ∷ 38 ∷ 32 ∷
    2 ∷ 45 ∷ 15 ∷ 9 ∷ 40 ∷ 5 ∷ 34 ∷ 36 ∷ 3 ∷ 22 ∷ 37 ∷ 29 ∷ 4 ∷ 30 ∷ 33 ∷ 21 ∷ 6 ∷ 27 ∷ 8 ∷ 19 ∷ 12 ∷ 16 ∷ 24 ∷ 1 ∷
    []

forty_seven_turned : IsTurned 47
    (1 ∷ 2 ∷ 3 ∷ 4 ∷ 6 ∷ 7 ∷ 8 ∷ 9 ∷ 12 ∷ 14 ∷ 16 ∷ 17 ∷ 18 ∷ 21 ∷ 24 ∷ 25 ∷ 27 ∷ 28 ∷ 32 ∷ 34 ∷ 36 ∷ 37 ∷ 42 ∷ [])
    (λ t. get_or forty_seven_turns t 0)
unfolding forty_seven_turns
forty_seven_turned = record {
  some = omega arith;
  itself = λ a low. omega (arith, low);
  from_none = λ t low. omega (arith, low);
  between = λ x y a x_low y_low low. omega (arith, x_low, y_low, low);
  restored = λ a t low t_low. omega (arith, low, t_low);
  no_zero = refl;
  no_whole = refl;
  ones = refl;
  twos = refl;
}

-- ---- what they carry

module _ (count : ℕ) (steps : List ℕ) (turn : ℕ → ℕ) (turned : IsTurned count steps turn) (length : ℕ)
    (one_way : (x y : ℕ) → Ahead count steps x y → Ahead count steps y x → ⊥)
    (dominated : (board : PlainBoard) → IsCircle count steps board → AreChainsDominated board length) where
  -- above each label are the numbers of the circle, so chains may be longer by one label
  cover_chains : (board : PlainBoard) → IsDoubleCover count steps board → AreChainsDominated board (suc length)
  cover_chains board cover =
      let found = circle_board count 0 steps one_way in
      dominated_above board length (omega (arith, cover.labels_are)) (λ label low.
      let names = above_cover count steps turn turned board found.0 cover found.1 label low in
      (found.0, names.0, names.1, names.2, dominated found.0 found.1))

  cover_exactly : (board : PlainBoard) → suc (2 * (count + 1)) < 2 ^ suc (suc (suc length)) → IsAntisymmetric board
      → IsDoubleCover count steps board → CarriesExactly board (suc (suc length))
  cover_exactly board few antisymmetric cover =
      chains_exactly board (suc length) (omega (arith, cover.labels_are)) antisymmetric (cover_chains board cover)
      (subst (λ n. suc n < 2 ^ suc (suc (suc length))) (sym cover.labels_are) few)

  cover_carries : suc (2 * (count + 1)) < 2 ^ suc (suc (suc length)) → SomeCarries (2 * (count + 1)) (suc (suc length))
  cover_carries few =
      let found = cover_board count steps one_way in
      (found.0, found.1.labels_are, found.2, cover_exactly found.0 few found.2.one_way found.1)

pub sixteen_chains : (board : PlainBoard)
    → IsDoubleCover 7
    (1 ∷ 2 ∷ 4 ∷ [])
    board → AreChainsDominated board 3
sixteen_chains =
    cover_chains 7
    (1 ∷ 2 ∷ 4 ∷ [])
    (λ t. get_or seven_turns t 0) seven_turned 2 residues_one_way residues_chains

pub sixteen_exactly : (board : PlainBoard) → IsAntisymmetric board
    → IsDoubleCover 7
    (1 ∷ 2 ∷ 4 ∷ [])
    board → CarriesExactly board 4
sixteen_exactly board antisymmetric cover =
    cover_exactly 7
    (1 ∷ 2 ∷ 4 ∷ [])
    (λ t. get_or seven_turns t 0) seven_turned 2 residues_one_way residues_chains board (omega arith)
    antisymmetric cover

pub sixteen_carry : SomeCarries 16 4
sixteen_carry =
    cover_carries 7
    (1 ∷ 2 ∷ 4 ∷ [])
    (λ t. get_or seven_turns t 0) seven_turned 2 residues_one_way residues_chains (omega arith)

pub above_sixteen : (board part : PlainBoard) (label : ℕ)
    → IsDoubleCover 7
    (1 ∷ 2 ∷ 4 ∷ [])
    board
    → IsCircle 7
    (1 ∷ 2 ∷ 4 ∷ [])
    part
    → label < board.labels → (to : ℕ → ℕ) × (back : ℕ → ℕ) × AreAbove board part label to back
above_sixteen board part label cover circle low =
    above_cover 7
    (1 ∷ 2 ∷ 4 ∷ [])
    (λ t. get_or seven_turns t 0) seven_turned board part cover circle label low

pub forty_chains : (board : PlainBoard)
    → IsDoubleCover 19
    (1 ∷ 4 ∷ 5 ∷ 6 ∷ 7 ∷ 9 ∷ 11 ∷ 16 ∷ 17 ∷ [])
    board → AreChainsDominated board 4
forty_chains =
    cover_chains 19
    (1 ∷ 4 ∷ 5 ∷ 6 ∷ 7 ∷ 9 ∷ 11 ∷ 16 ∷ 17 ∷ [])
    (λ t. get_or nineteen_turns t 0) nineteen_turned 3 nineteen_one_way nineteen_chains

pub forty_exactly : (board : PlainBoard) → IsAntisymmetric board
    → IsDoubleCover 19
    (1 ∷ 4 ∷ 5 ∷ 6 ∷ 7 ∷ 9 ∷ 11 ∷ 16 ∷ 17 ∷ [])
    board → CarriesExactly board 5
forty_exactly board antisymmetric cover =
    cover_exactly 19
    (1 ∷ 4 ∷ 5 ∷ 6 ∷ 7 ∷ 9 ∷ 11 ∷ 16 ∷ 17 ∷ [])
    (λ t. get_or nineteen_turns t 0) nineteen_turned 3 nineteen_one_way nineteen_chains board (omega arith)
    antisymmetric cover

pub forty_carry : SomeCarries 40 5
forty_carry =
    cover_carries 19
    (1 ∷ 4 ∷ 5 ∷ 6 ∷ 7 ∷ 9 ∷ 11 ∷ 16 ∷ 17 ∷ [])
    (λ t. get_or nineteen_turns t 0) nineteen_turned 3 nineteen_one_way nineteen_chains (omega arith)

pub above_forty : (board part : PlainBoard) (label : ℕ)
    → IsDoubleCover 19
    (1 ∷ 4 ∷ 5 ∷ 6 ∷ 7 ∷ 9 ∷ 11 ∷ 16 ∷ 17 ∷ [])
    board
    → IsCircle 19
    (1 ∷ 4 ∷ 5 ∷ 6 ∷ 7 ∷ 9 ∷ 11 ∷ 16 ∷ 17 ∷ [])
    part
    → label < board.labels → (to : ℕ → ℕ) × (back : ℕ → ℕ) × AreAbove board part label to back
above_forty board part label cover circle low =
    above_cover 19
    (1 ∷ 4 ∷ 5 ∷ 6 ∷ 7 ∷ 9 ∷ 11 ∷ 16 ∷ 17 ∷ [])
    (λ t. get_or nineteen_turns t 0) nineteen_turned board part cover circle label low

pub ninety_six_chains : (board : PlainBoard)
    → IsDoubleCover 47
    (1 ∷ 2 ∷ 3 ∷ 4 ∷ 6 ∷ 7 ∷ 8 ∷ 9 ∷ 12 ∷ 14 ∷ 16 ∷ 17 ∷ 18 ∷ 21 ∷ 24 ∷ 25 ∷ 27 ∷ 28 ∷ 32 ∷ 34 ∷ 36 ∷ 37 ∷ 42 ∷ [])
    board → AreChainsDominated board 5
ninety_six_chains =
    cover_chains 47
    (1 ∷ 2 ∷ 3 ∷ 4 ∷ 6 ∷ 7 ∷ 8 ∷ 9 ∷ 12 ∷ 14 ∷ 16 ∷ 17 ∷ 18 ∷ 21 ∷ 24 ∷ 25 ∷ 27 ∷ 28 ∷ 32 ∷ 34 ∷ 36 ∷ 37 ∷ 42 ∷ [])
    (λ t. get_or forty_seven_turns t 0) forty_seven_turned 4 forty_seven_one_way forty_seven_dominated

pub ninety_six_exactly : (board : PlainBoard) → IsAntisymmetric board
    → IsDoubleCover 47
    (1 ∷ 2 ∷ 3 ∷ 4 ∷ 6 ∷ 7 ∷ 8 ∷ 9 ∷ 12 ∷ 14 ∷ 16 ∷ 17 ∷ 18 ∷ 21 ∷ 24 ∷ 25 ∷ 27 ∷ 28 ∷ 32 ∷ 34 ∷ 36 ∷ 37 ∷ 42 ∷ [])
    board → CarriesExactly board 6
ninety_six_exactly board antisymmetric cover =
    cover_exactly 47
    (1 ∷ 2 ∷ 3 ∷ 4 ∷ 6 ∷ 7 ∷ 8 ∷ 9 ∷ 12 ∷ 14 ∷ 16 ∷ 17 ∷ 18 ∷ 21 ∷ 24 ∷ 25 ∷ 27 ∷ 28 ∷ 32 ∷ 34 ∷ 36 ∷ 37 ∷ 42 ∷ [])
    (λ t. get_or forty_seven_turns t 0) forty_seven_turned 4 forty_seven_one_way forty_seven_dominated board
    (omega arith)
    antisymmetric cover

pub ninety_six_carry : SomeCarries 96 6
ninety_six_carry =
    cover_carries 47
    (1 ∷ 2 ∷ 3 ∷ 4 ∷ 6 ∷ 7 ∷ 8 ∷ 9 ∷ 12 ∷ 14 ∷ 16 ∷ 17 ∷ 18 ∷ 21 ∷ 24 ∷ 25 ∷ 27 ∷ 28 ∷ 32 ∷ 34 ∷ 36 ∷ 37 ∷ 42 ∷ [])
    (λ t. get_or forty_seven_turns t 0) forty_seven_turned 4 forty_seven_one_way forty_seven_dominated (omega arith)

pub above_ninety_six : (board part : PlainBoard) (label : ℕ)
    → IsDoubleCover 47
    (1 ∷ 2 ∷ 3 ∷ 4 ∷ 6 ∷ 7 ∷ 8 ∷ 9 ∷ 12 ∷ 14 ∷ 16 ∷ 17 ∷ 18 ∷ 21 ∷ 24 ∷ 25 ∷ 27 ∷ 28 ∷ 32 ∷ 34 ∷ 36 ∷ 37 ∷ 42 ∷ [])
    board
    → IsCircle 47
    (1 ∷ 2 ∷ 3 ∷ 4 ∷ 6 ∷ 7 ∷ 8 ∷ 9 ∷ 12 ∷ 14 ∷ 16 ∷ 17 ∷ 18 ∷ 21 ∷ 24 ∷ 25 ∷ 27 ∷ 28 ∷ 32 ∷ 34 ∷ 36 ∷ 37 ∷ 42 ∷ [])
    part
    → label < board.labels → (to : ℕ → ℕ) × (back : ℕ → ℕ) × AreAbove board part label to back
above_ninety_six board part label cover circle low =
    above_cover 47
    (1 ∷ 2 ∷ 3 ∷ 4 ∷ 6 ∷ 7 ∷ 8 ∷ 9 ∷ 12 ∷ 14 ∷ 16 ∷ 17 ∷ 18 ∷ 21 ∷ 24 ∷ 25 ∷ 27 ∷ 28 ∷ 32 ∷ 34 ∷ 36 ∷ 37 ∷ 42 ∷ [])
    (λ t. get_or forty_seven_turns t 0) forty_seven_turned board part cover circle label low

pub seven_on_few : SomeCarries 256 7
seven_on_few = product_carries 16 16 3 3 (omega arith) (omega arith) sixteen_carry sixteen_carry

pub eight_on_few : SomeCarries 640 8
eight_on_few = product_carries 16 40 3 4 (omega arith) (omega arith) sixteen_carry forty_carry

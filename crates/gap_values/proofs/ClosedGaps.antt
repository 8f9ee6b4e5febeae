-- A gap table says at which depths an adversary has a tree.
use Rattle.std.proofs.Common.{◌≡◌, ℕ, zero, suc, ◌<◌, ◌+◌, ◌-◌, List, length, sym, ◌∙◌, subst, inl, inr, arith, ◌↔◌}
use Rattle.std.specs.List.{remove}
use Rattle.std.proofs.lemmas.List.{length-set}
use Rattle.std.proofs.lemmas.Bool.{cases_lt}
use Rattle.std.proofs.lemmas.List.Edits.{length-remove, get_or-remove_below, get_or-remove_above}
use Rattle.std.proofs.lemmas.List.Elements.{All-from_get_or}
use Rattle.board_text.proofs.Cited.{label_is_place}
use Rattle.board_text.specs.PlainBoard.{PlainBoard, IsConfiguration, places}
use Rattle.positions.specs.declared.value.Value.{Value}
use Rattle.positions.specs.declared.value.Value.TheVariants.{Finite, Forever}
use Rattle.positions.specs.Game.{AdversaryTree, moved}
use Rattle.positions.specs.Value.{HasValue}
use Rattle.positions.proofs.Cited.{some_tree, moved_is_configuration}
use Rattle.classes.specs.Classes.{IsClass, class_of}
use Rattle.classes.specs.ClassGaps.{gap_at, member_with}
use Rattle.classes.proofs.Cited.{place-below, class_of-set, class_of-class, falls-class_of}
use Rattle.classes.proofs.Cited.{length-class_of, put-is, legal-answers, partner_of, AreLike}
use Rattle.gap_values.specs.GapTables.{IsClosedBefore, HasClosedGap, IsGapTable, IsFirstClosed}

-- ---- configurations of one class have the same gaps

module _ (board : PlainBoard) (closed : List ℕ → Value) (bound : ℕ) where
  pub like-closed : (one other : List ℕ) → AreLike board one other
      → HasClosedGap board closed other bound → HasClosedGap board closed one bound
  like-closed one other like has =
      let partner = partner_of board one other like has.0 has.1 in (
        partner.partner,
        partner.is.inside,
        subst (λ g. IsClosedBefore (closed g) bound) (sym partner.is.gap) has.2,
      )

-- ---- the gaps of a configuration are gaps, and a move leads to a like member

module _ (board : PlainBoard) (configuration : List ℕ) (is : IsConfiguration board configuration) (pebble : ℕ)
    (inside : pebble < board.pebbles) where
  pub gap-is : IsClass (places board) (board.pebbles - 1) (gap_at configuration pebble)
  gap-is =
      let long : length configuration ≡ board.pebbles = is.each_pebble in
      let fewer = length-remove configuration pebble (omega arith) in
      record {
        size = length-class_of (remove configuration pebble) ∙ omega (arith, fewer);
        falls = falls-class_of (places board) (remove configuration pebble)
            (All-from_get_or (λ place. place < places board) (remove configuration pebble) 0
            (λ k low. elim (cases_lt k pebble) [
              | inl before ↦ subst (λ place. place < places board)
                  (sym (get_or-remove_below configuration pebble 0 k before (omega arith)))
                  (is.each_place k 0 (omega (arith, fewer)))
              | inr behind ↦ subst (λ place. place < places board)
                  (sym (get_or-remove_above configuration pebble 0 k behind (omega arith)))
                  (is.each_place (k + 1) 0 (omega (arith, fewer)))
            ]));
      }

  pub member-like : (label : ℕ) → label < places board
      → AreLike board (moved configuration pebble label) (member_with (gap_at configuration pebble) label)
  member-like label low =
      let long : length configuration ≡ board.pebbles = is.each_pebble in
      let gap : IsClass (places board) (board.pebbles - 1) (gap_at configuration pebble) = gap-is in
      let member = put-is (places board) (board.pebbles - 1) label (gap_at configuration pebble) gap low in
      record {
        one_size = length-set configuration pebble label ∙ long;
        other_size = (let size = member.size in omega (arith, size));
        same = class_of-set configuration pebble label (omega arith)
            ∙ sym (class_of-class (places board) (member_with (gap_at configuration pebble) label) member.falls);
      }

-- ---- trees of an adversary

no-round : (value : Value) → IsClosedBefore value zero → ⊥
no-round (Finite round) before = omega (arith, before)
no-round Forever before = before

module _ (board : PlainBoard) (closed : List ℕ → Value) (table : IsGapTable board closed) where
  pub tree-if-closed : (bound : ℕ) (configuration : List ℕ) → IsConfiguration board configuration
      → AdversaryTree board bound configuration ↔ HasClosedGap board closed configuration bound
  tree-if-closed zero configuration is = (
    λ tree. absurd tree,
    λ has. no-round (closed (gap_at configuration has.0)) has.2,
  )
  tree-if-closed (suc bound) configuration is = (
    λ tree.
        let gap = gap_at configuration tree.0 in (
          tree.0,
          tree.1,
          (table gap (gap-is board configuration is tree.0 tree.1) bound).1 (λ label answer.
              let legal = (legal-answers board configuration tree.0 label is.each_pebble tree.1).1 answer in
              let next : List ℕ = moved configuration tree.0 label in
              let like = member-like board configuration is tree.0 tree.1 label
              (label_is_place board label legal.is_label) in
              like-closed board closed bound (member_with gap label) next
              (record { one_size = like.other_size; other_size = like.one_size; same = sym like.same })
              ((tree-if-closed bound next (moved_is_configuration board configuration tree.0 label legal.is_label is)).0
              (tree.2 label legal))),
        ),
    λ has.
        let gap = gap_at configuration has.0 in (
          has.0,
          has.1,
          λ label legal.
              let answer = (legal-answers board configuration has.0 label is.each_pebble has.1).0 legal in
              let next : List ℕ = moved configuration has.0 label in
              let like = member-like board configuration is has.0 has.1 label
              (label_is_place board label legal.is_label) in
              (tree-if-closed bound next (moved_is_configuration board configuration has.0 label legal.is_label is)).1
              (like-closed board closed bound next (member_with gap label) like
              ((table gap (gap-is board configuration is has.0 has.1) bound).0 has.2 label answer)),
        ),
  )

-- ---- values

value-from-trees : (board : PlainBoard) (configuration : List ℕ) (value : Value)
    → ((bound : ℕ) → IsClosedBefore value bound ↔ AdversaryTree board bound configuration)
    → HasValue board configuration value
value-from-trees board configuration (Finite number) trees = (
  elim (some_tree board number configuration) [
    | inl tree ↦ tree
    | inr tree ↦ let below : number < number = (trees number).1 tree in let no : ⊥ = omega (arith, below) in absurd no
  ],
  (trees (suc number)).0 (omega arith),
)
value-from-trees board configuration Forever trees = λ depth.
    elim (some_tree board depth configuration) [
      | inl tree ↦ tree
      | inr tree ↦ absurd ((trees depth).1 tree)
    ]

pub first-closed : (board : PlainBoard) (closed : List ℕ → Value) (configuration : List ℕ) (value : Value)
    → IsGapTable board closed → IsConfiguration board configuration
    → IsFirstClosed board closed configuration value → HasValue board configuration value
first-closed board closed configuration value table is first =
    value-from-trees board configuration value (λ bound.
    let trees = tree-if-closed board closed table bound configuration is in
    (λ before. trees.1 ((first bound).0 before), λ tree. (first bound).1 (trees.0 tree)))

-- ---- a configuration and its class

pub value-of-class : (board : PlainBoard) (closed : List ℕ → Value) (held : List ℕ) (value : Value)
    → IsGapTable board closed → IsConfiguration board held
    → IsFirstClosed board closed (class_of held) value → HasValue board held value
value-of-class board closed held value table is first =
    let falls = falls-class_of (places board) held is.each_place in
    let own : class_of held ≡ class_of (class_of held) = sym (class_of-class (places board) (class_of held) falls) in
    let size : length (class_of held) ≡ board.pebbles = length-class_of held ∙ is.each_pebble in
    first-closed board closed held value table is (λ bound. (
      λ before. like-closed board closed bound held (class_of held)
          (record { one_size = is.each_pebble; other_size = size; same = own }) ((first bound).0 before),
      λ has. (first bound).1 (like-closed board closed bound (class_of held) held
          (record { one_size = size; other_size = is.each_pebble; same = sym own }) has),
    ))

pub class-is : (board : PlainBoard) (held : List ℕ) → IsConfiguration board held
    → IsClass (places board) board.pebbles (class_of held)
class-is board held is = record {
  size = length-class_of held ∙ is.each_pebble;
  falls = falls-class_of (places board) held is.each_place;
}

pub class-configuration : (board : PlainBoard) (class : List ℕ) → IsClass (places board) board.pebbles class
    → IsConfiguration board class
class-configuration board class is = record {
  each_pebble = is.size;
  each_place = All-from_get_or (λ place. place < places board) class 0
      (λ k low. place-below (places board) class k is.falls low);
}

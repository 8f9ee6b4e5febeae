use Rattle.std.proofs.Common.{rules, ◌≡◌, ℕ, ◌/◌, ◌%◌, ◌^◌, ◌<◌, nat_eq, bit_and, length, get_or, sym, ap, ◌∙◌, arith}
use Rattle.std.proofs.lemmas.List.{get_or_read, places}
use Rattle.std.proofs.lemmas.Nat.Bits.{shr_and_one}
use Rattle.strategies.proofs.BitMarks.{so_many, mark_at}
use Rattle.strategies.proofs.marks.Marks.get.Goals as goal

pub index-word-requires : goal.index-word-requires
index-word-requires c =
    let s = c.self.inside in
    let low : c.args.number < s.size =
    omega (arith, rw (← c.self.view_is) at c.requires, so_many s.size s.words.items) in
    let inside : c.args.number / 64 < length s.words.items = omega (arith, low, c.self.invariant) in
    search (rules, places, inside)

pub returns : goal.returns
returns c =
    let s = c.self.inside in
    let number = c.args.number in
    let low : number < s.size = omega (arith, rw (← c.self.view_is) at c.requires, so_many s.size s.words.items) in
    let inside : number / 64 < length s.words.items = omega (arith, low, c.self.invariant) in
    let word : c.index-word.result.now ≡ get_or s.words.items (number / 64) 0 =
    get_or_read s.words.items (number / 64) c.index-word.result.now inside c.index-word.ensures 0 in
    ap (λ (w : ℕ). nat_eq (bit_and (w / 2 ^ (number % 64)) 1) 1) word
    ∙ ap (λ (b : ℕ). nat_eq b 1) (shr_and_one (get_or s.words.items (number / 64) 0) (number % 64))
    ∙ rw (← c.self.view_is) (sym (mark_at s.size s.words.items number low))

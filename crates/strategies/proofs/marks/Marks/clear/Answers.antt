use Rattle.std.proofs.Common.{rules, ◌≡◌, ℕ, ◌/◌, ◌%◌, ◌*◌, ◌^◌, ◌<◌, Bool, false, List, bit_and, length, get_or, set}
use Rattle.std.proofs.Common.{ap, ◌∙◌, arith}
use Rattle.std.specs.Int.{bit_not, w64}
use Rattle.std.proofs.lemmas.List.{get_or_read, places}
use Rattle.strategies.specs.Inside.Marks.{marks_of}
use Rattle.strategies.proofs.BitMarks.{so_many, one_cleared}
use Rattle.strategies.proofs.marks.Marks.clear.Goals as goal

pub index_mut-requires : goal.index_mut-requires
index_mut-requires c =
    let s = c.self.inside in
    let low : c.args.number < s.size =
    omega (arith, rw (← c.self.view_is) at c.requires, so_many s.size s.words.items) in
    let inside : c.args.number / 64 < length s.words.items = omega (arith, low, c.self.invariant) in
    search (rules, places, inside)

pub returns : goal.returns
returns c =
    let s = c.self.inside in
    let number = c.args.number in
    let low : number < s.size = omega (arith, rw (← c.self.view_is) at c.requires, so_many s.size s.words.items) in
    let inside : number / 64 < length s.words.items = omega (arith, low, c.self.invariant) in
    let word : c.index_mut.result.now ≡ get_or s.words.items (number / 64) 0 =
    get_or_read s.words.items (number / 64) c.index_mut.result.now inside c.index_mut.ensures.value 0 in
    ap (λ (w : ℕ). marks_of s.size (set s.words.items (number / 64) (bit_and w (bit_not w64 (1 * 2 ^ (number % 64) % 2
    ^ 64))))) word
    ∙ one_cleared s.size s.words.items number low inside
    ∙ ap (λ (l : List Bool). set l number false) c.self.view_is

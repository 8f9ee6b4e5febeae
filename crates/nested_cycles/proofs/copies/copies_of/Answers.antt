use Rattle.std.proofs.Common.{◌/◌, ◌<◌, ℕ, List, All, map, arith}
use Rattle.std.proofs.lemmas.List.Elements.{All-map}
use Rattle.nested_cycles.proofs.CopyCases.{AreDigits, no_copy, one_copy, two_copies, three_copies}
use Rattle.nested_cycles.proofs.copies.copies_of.Goals as goal

digits : (size : ℕ) (words : List ℕ) → All (λ word. word / size < 3) words → AreDigits (map (λ word. word / size) words)
digits size words low = All-map (λ first. first < 3) (λ word. word / size) words low

pub returns-in-true-true-true : goal.returns-in-true-true-true
returns-in-true-true-true c =
    let e = c.in-true-true-true in
    three_copies _ e.ensures e.ensures' e.ensures''

pub returns-in-true-true-false : goal.returns-in-true-true-false
returns-in-true-true-false c =
    let e = c.in-true-true-false in
    two_copies _ 0 (omega arith) (digits c.args.size _ c.requires.labels) e.ensures e.ensures' e.ensures''

pub returns-in-true-false-true : goal.returns-in-true-false-true
returns-in-true-false-true c =
    let e = c.in-true-false-true in
    two_copies _ 2 (omega arith) (digits c.args.size _ c.requires.labels) e.ensures'' e.ensures e.ensures'

pub returns-in-true-false-false : goal.returns-in-true-false-false
returns-in-true-false-false c =
    let e = c.in-true-false-false in
    one_copy _ 0 (omega arith) (digits c.args.size _ c.requires.labels) e.ensures e.ensures' e.ensures''

pub returns-in-false-true-true : goal.returns-in-false-true-true
returns-in-false-true-true c =
    let e = c.in-false-true-true in
    two_copies _ 1 (omega arith) (digits c.args.size _ c.requires.labels) e.ensures' e.ensures'' e.ensures

pub returns-in-false-true-false : goal.returns-in-false-true-false
returns-in-false-true-false c =
    let e = c.in-false-true-false in
    one_copy _ 1 (omega arith) (digits c.args.size _ c.requires.labels) e.ensures' e.ensures'' e.ensures

pub returns-in-false-false-true : goal.returns-in-false-false-true
returns-in-false-false-true c =
    let e = c.in-false-false-true in
    one_copy _ 2 (omega arith) (digits c.args.size _ c.requires.labels) e.ensures'' e.ensures e.ensures'

pub returns-in-false-false-false : goal.returns-in-false-false-false
returns-in-false-false-false c =
    let e = c.in-false-false-false in
    no_copy _ (digits c.args.size _ c.requires.labels) e.ensures e.ensures' e.ensures''

-- The bytes of a buffer after its part was moved to the start and more bytes were read after it.
use Rattle.std.proofs.Common.{◌≡◌, ℕ, ◌+◌, ◌-◌, ◌≤◌, List, ◌++◌, length, take, drop, sym, ap, ◌∙◌, subst, arith}
use Rattle.std.proofs.Common.{length-take-le, length-drop, drop_at}
use Rattle.std.specs.List.{copy_within}
use Rattle.std.proofs.lemmas.List.{drop-take}
use Rattle.std.proofs.lemmas.Slice.{take-put_mid_below}
use lib.Seq.{take-append-le, take-take}
use borrow.Rule.Slice.PartMut.{put_mid, post_of}
use Rattle.board_text.proofs.Cited.{take_more}

-- a prefix stays the prefix if another rest follows
take_front : (size : ℕ) (xs ys : List ℕ) → size ≤ length xs → take size (take size xs ++ ys) ≡ take size xs
take_front size xs ys within =
    take-append-le size (take size xs) ys (omega (arith, length-take-le size xs within))
    ∙ take-take size size xs (omega arith)

-- after the move the buffer begins with the part
moved : (buffer : List ℕ) (from size : ℕ) → from + size ≤ length buffer
    → take size (copy_within buffer from (from + size) 0) ≡ drop from (take (from + size) buffer)
moved buffer from size within =
    let same : from + size - from ≡ size = omega arith in
    rw same (take_front size (drop from buffer) _ (omega (arith, length-drop from buffer, within))
    ∙ sym (drop-take from size buffer))

-- and the bytes that were read come after it
pub filled : (buffer xs ys : List ℕ) (from to count k : ℕ) → from ≤ to → to ≤ length buffer → length xs ≡ length buffer
    → xs ≡ copy_within buffer from to 0 → count ≤ length ys
    → take (to - from + count) (put_mid (to - from) k xs ys) ≡ drop from (take to buffer) ++ take count ys
filled buffer xs ys from to count k ordered within long moved_is few =
    let size : ℕ = to - from in
    let whole : from + (to - from) ≡ to = omega (arith, ordered) in
    let front : take (to - from) xs ≡ drop from (take to buffer) =
    ap (take (to - from)) moved_is
    ∙ subst (λ t. take (to - from) (copy_within buffer from t 0) ≡ drop from (take t buffer)) whole
    (moved buffer from (to - from) (omega (arith, whole, within))) in
    let behind : take count (drop (to - from) (put_mid (to - from) k xs ys)) ≡ take count ys =
    ap (take count) (drop_at (take (to - from) xs) (ys ++ post_of (to - from) k xs) (to - from)
    (length-take-le (to - from) xs (omega (arith, long, within))))
    ∙ take-append-le count ys (post_of (to - from) k xs) few in
    take_more (put_mid (to - from) k xs ys) (to - from) count
    ∙ ap (λ l. l ++ take count (drop (to - from) (put_mid (to - from) k xs ys)))
    (take-put_mid_below (to - from) k xs ys (to - from) (omega arith) (omega (arith, long, within)) ∙ front)
    ∙ ap (λ l. drop from (take to buffer) ++ l) behind

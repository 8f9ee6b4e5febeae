-- The bytes that lines of rows begin with.
use Rattle.std.proofs.Common.{◌≡◌, ℕ, ◌+◌, ◌-◌, ◌≤◌, sym, ◌∙◌, subst, arith, List, ◌++◌, drop, length, take}
use borrow.Rule.Slice.PartMut.{put_mid, same_len_mid}
use Rattle.std.specs.Str.{IsAscii}
use Rattle.std.proofs.lemmas.List.{length-drop, length-take-le}
use Rattle.std.proofs.lemmas.Str.{IsAscii-append}
use Rattle.proof_text.specs.Inside.RowText.{IsRowHead}
use Rattle.proof_text.proofs.GatheredWords.{put_taken}

-- ---- a word more

module _ (size k few : ℕ) (bytes ys : List ℕ) (is : IsRowHead bytes size) (fits : size + k ≤ 32)
    (long : length ys ≡ length (take k (drop size bytes))) (most : few ≤ k) where
  all : length bytes ≡ 32
  all = is.room

  short : length ys ≡ k
  short =
      let rest = length-drop size bytes in
      long ∙ length-take-le k (drop size bytes) (omega (arith, rest, all, fits))

  pub head-bytes : take (size + few) (put_mid size k bytes ys) ≡ take size bytes ++ take few ys
  head-bytes = put_taken size k few bytes ys (omega (arith, all, fits)) (omega (arith, short, most))

  pub head-more : IsAscii (take few ys) → IsRowHead (put_mid size k bytes ys) (size + few)
  head-more ascii = record {
    room = same_len_mid size k bytes ys long ∙ all;
    inside = omega (arith, fits, most);
    ascii = subst IsAscii (sym head-bytes) (IsAscii-append (take size bytes) (take few ys) is.ascii ascii);
  }

-- The bytes that reads and writes in turn have moved.
use Rattle.std.proofs.Common.{◌≡◌, ℕ, ◌+◌, List, ◌++◌, length, take, drop, sym, ap, ◌∙◌, subst, arith, append_assoc}
use Rattle.std.proofs.Common.{take-append-drop, length-append, drop_at}
use lib.Seq.{take-take, take-append-le, take-append_seam}
use Rattle.std.proofs.lemmas.List.{drop-take}
use Rattle.std.specs.Prelude.{Option, None, Some, Result, Ok, Err, IfOk}
use Rattle.std.specs.Io.{ReadsAtMost}
use Rattle.std.specs.Io.KnownBytes.{Appends, Consumes, Keeps, ReadConsumes}
use Rattle.board_text.specs.Streams.{AppendsPrefix, Bytes}

-- the bytes of a stream, from those before to those after
abbrev pub between : Option (List ℕ) → Option (List ℕ) → Bytes
between before after = record { old = before; new = after }

pub Appends-trans : (a b c : Option (List ℕ)) (bs cs : List ℕ) → Appends a b bs → Appends b c cs
    → Appends a c (bs ++ cs)
Appends-trans None b c bs cs p q = tt
Appends-trans (Some x) None c bs cs p q = absurd p
Appends-trans (Some x) (Some y) None bs cs p q = absurd q
Appends-trans (Some x) (Some y) (Some z) bs cs p q = q ∙ ap (λ l. l ++ cs) p ∙ append_assoc x bs cs

pub Appends-kept : (a b c : Option (List ℕ)) (bs : List ℕ) → Appends a b bs → Keeps b c → Appends a c bs
Appends-kept None b c bs p q = tt
Appends-kept (Some x) None c bs p q = absurd p
Appends-kept (Some x) (Some y) None bs p q = absurd q
Appends-kept (Some x) (Some y) (Some z) bs p q = q ∙ p

pub Consumes-trans : (a b c : Option (List ℕ)) (bs cs : List ℕ) → Consumes a b bs → Consumes b c cs
    → Consumes a c (bs ++ cs)
Consumes-trans None b c bs cs p q = tt
Consumes-trans (Some x) None c bs cs p q = absurd p
Consumes-trans (Some x) (Some y) None bs cs p q = absurd q
Consumes-trans (Some x) (Some y) (Some z) bs cs p q = p ∙ ap (λ l. bs ++ l) q ∙ sym (append_assoc bs cs z)

pub Consumes-kept : (a b c : Option (List ℕ)) (bs : List ℕ) → Consumes a b bs → Keeps b c → Consumes a c bs
Consumes-kept None b c bs p q = tt
Consumes-kept (Some x) None c bs p q = absurd p
Consumes-kept (Some x) (Some y) None bs p q = absurd q
Consumes-kept (Some x) (Some y) (Some z) bs p q = p ∙ ap (λ l. bs ++ l) (sym q)

-- the bytes that were read into a part of a vector come after the bytes before that part
pub read_in_place : {E : Type 0} (a b : Option (List ℕ)) (r : Result ℕ E) (front part rest : List ℕ) (at : ℕ)
    → length front ≡ at → ReadsAtMost r part
    → ReadConsumes a b r part → IfOk r (λ n. Consumes a b (take n (drop at (front ++ (part ++ rest)))))
read_in_place a b (Ok n) front part rest at long fits read =
    subst (Consumes a b) (sym (ap (take n) (drop_at front (part ++ rest) at long)
    ∙ take-append-le n part rest fits.0)) read.0
read_in_place a b (Err e) front part rest at long fits read = tt

-- the first f bytes, and then n bytes more
pub take_more : (xs : List ℕ) (f n : ℕ) → take (f + n) xs ≡ take f xs ++ take n (drop f xs)
take_more xs f n =
    sym (take-append-drop f (take (f + n) xs))
    ∙ ap (λ l. l ++ drop f (take (f + n) xs)) (take-take f (f + n) xs (omega arith))
    ∙ ap (λ l. take f xs ++ l) (drop-take f n xs)

-- the filled prefix of a vector grows by the bytes that were read after it
pub filled_on : (a b c : Option (List ℕ)) (xs ys zs : List ℕ) (f n : ℕ) → take f ys ≡ take f xs → take f zs ≡ take f ys
    → Consumes a b (take f xs) → Consumes b c (take n (drop f zs)) → Consumes a c (take (f + n) zs)
filled_on a b c xs ys zs f n grown front before read =
    subst (Consumes a c) (sym (take_more zs f n ∙ ap (λ l. l ++ take n (drop f zs)) (front ∙ grown)))
    (Consumes-trans a b c _ _ before read)

-- the bytes written so far, those of one write more, and the rest are the whole text
pub moved_on : (all front rest : List ℕ) (n : ℕ) → all ≡ front ++ rest → all ≡ (front ++ take n rest) ++ drop n rest
moved_on all front rest n e =
    e ∙ ap (λ l. front ++ l) (sym (take-append-drop n rest)) ∙ sym (append_assoc front (take n rest) (drop n rest))

-- the bytes written so far are a prefix of the text
pub front_taken : (a b : Option (List ℕ)) (all front rest : List ℕ) → all ≡ front ++ rest → Appends a b front
    → AppendsPrefix (between a b) all
front_taken a b all front rest e taken =
    let same : take (length front) all ≡ front = ap (take (length front)) e ∙ take-append_seam front rest in
    (length front, omega (arith, ap length e, length-append front rest), subst (Appends a b) (sym same) taken)

-- the bytes written so far and in one write more are a prefix of the text
pub front_more : (a b c : Option (List ℕ)) (all front rest : List ℕ) (n : ℕ) → all ≡ front ++ rest → Appends a b front
    → Appends b c (take n rest) → AppendsPrefix (between a c) all
front_more a b c all front rest n e taken more =
    front_taken a c all (front ++ take n rest) (drop n rest) (moved_on all front rest n e)
    (Appends-trans a b c front (take n rest) taken more)

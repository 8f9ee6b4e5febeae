-- The lines that came so far, and the bytes that were read after them.
use Rattle.std.proofs.Common.{◌≡◌, ℕ, ◌<◌, ◌≤◌, true, false, List, [], ◌∷◌, ◌++◌, length, All, inl, inr, refl, sym, ap}
use Rattle.std.proofs.Common.{◌∙◌, subst, arith, append-nil, append_assoc}
use Rattle.std.specs.Prelude.{Option, None, Some, ◌⊎◌}
use Rattle.std.specs.List.{flat_map}
use Rattle.std.specs.Io.KnownBytes.{Consumes, IsAtEnd}
use Rattle.std.proofs.lemmas.List.{flat_map_more}
use Rattle.std.proofs.lemmas.List.Elements.{All-push}
use Rattle.board_text.specs.LineForms.{with_line_feed}
use Rattle.board_text.specs.Streams.{Bytes}
use Rattle.board_text.proofs.Cited.{Consumes-trans, between}
use Rattle.player.specs.Words.{IsLine}
use Rattle.player.specs.Inside.Words.{Spells}
use Rattle.player.specs.Inside.LineInput.{Unread, GivesLine}
use Rattle.player.specs.Play.{LinesCame, FullLinesCame, LinesWereAll}
use Rattle.player.specs.declared.line_meaning.LineMeaning.{LineMeaning}
use Rattle.player.specs.declared.turns.TheConstants.{MOST_LINES}

pub record HasCome (left : Bytes) (lines : List (List ℕ)) (unread : Unread) : Type 0 where
  pub came : ((unread.has_ended ≡ false) × FullLinesCame left lines unread.bytes)
      ⊎ ((unread.has_ended ≡ true) × (unread.bytes ≡ []) × LinesWereAll left lines)
  pub each : All IsLine lines

Consumes-none : (a : Option (List ℕ)) → Consumes a a []
Consumes-none None = tt
Consumes-none (Some x) = refl

pub none_yet : (left : Option (List ℕ)) → HasCome (between left left) [] (record { bytes = []; has_ended = false })
none_yet left = record { came = inl (refl, Consumes-none left); each = λ k d inside. absurd (omega (arith, inside)) }

-- if the end of the input wasn't seen, the lines that came have their line feeds, and the unread bytes follow
closed_so_far : (left : Bytes) (lines : List (List ℕ)) (unread : Unread) → HasCome left lines unread
    → unread.has_ended ≡ false → FullLinesCame left lines unread.bytes
closed_so_far left lines unread come goes_on =
    elim come.came [ inl so ↦ so.1 | inr over ↦ absurd (differ (sym over.0 ∙ goes_on)) ]
  where
    differ : true ≡ false → ⊥
    differ same = cc

-- bytes that are read then follow the unread ones
read_on : (left_old left_now left_new : Option (List ℕ)) (lines : List (List ℕ)) (unread : Unread) (more : List ℕ)
    → HasCome (between left_old left_now) lines unread → unread.has_ended ≡ false
    → Consumes left_now left_new more → FullLinesCame (between left_old left_new) lines (unread.bytes ++ more)
read_on left_old left_now left_new lines unread more come goes_on read =
    subst (Consumes left_old left_new) (append_assoc (flat_map with_line_feed lines) unread.bytes more)
    (Consumes-trans left_old left_now left_new _ more
    (closed_so_far (between left_old left_now) lines unread come goes_on) read)

-- the lines came
pub came_of : (left : Bytes) (lines : List (List ℕ)) (unread : Unread) → length lines ≤ MOST_LINES
    → HasCome left lines unread → LinesCame left lines unread.bytes
came_of left lines unread few come = record {
  came = elim come.came [ inl so ↦ inl so.1 | inr over ↦ inr (over.1, over.2) ];
  each = come.each;
  few = few;
}

-- the lines came, and the unread bytes and those read then follow
pub came_with : (left_old left_now left_new : Option (List ℕ)) (lines : List (List ℕ)) (unread : Unread) (more : List ℕ)
    → length lines ≤ MOST_LINES → HasCome (between left_old left_now) lines unread
    → unread.has_ended ≡ false → Consumes left_now left_new more
    → LinesCame (between left_old left_new) lines (unread.bytes ++ more)
came_with left_old left_now left_new lines unread more few come goes_on read = record {
  came = inl (read_on left_old left_now left_new lines unread more come goes_on read);
  each = come.each;
  few = few;
}

pub record ComesNext (left : Bytes) (lines : List (List ℕ)) (unread : Unread) (word : LineMeaning) : Type 0 where
  pub line : List ℕ
  pub spells : Spells line word
  pub come : HasCome left (lines ++ line ∷ []) unread
  pub rest : List ℕ
  pub before : length lines ≤ MOST_LINES → LinesCame left lines rest

-- one more line came
pub line_came : (left_old left_now left_new : Option (List ℕ)) (lines : List (List ℕ)) (old new : Unread)
    (word : LineMeaning)
    → HasCome (between left_old left_now) lines old → GivesLine old new (between left_now left_new) (Some word)
    → ComesNext (between left_old left_new) lines new word
line_came left_old left_now left_new lines old new word come gives =
    let line = gives.0 in
    let goes_on = gives.1 in
    let each : All IsLine (lines ++ line ∷ []) = All-push IsLine lines line come.each gives.3 in
    elim gives.4 [
      | inl next ↦ record {
        line = line;
        spells = gives.2;
        come = record {
          came = inl (
            next.goes_on,
            subst (Consumes left_old left_new) (joined next.more next.taken)
                (read_on left_old left_now left_new lines old next.more come goes_on next.read),
          );
          each = each;
        };
        rest = old.bytes ++ next.more;
        before = λ few. came_with left_old left_now left_new lines old next.more few come goes_on next.read;
      }
      | inr both ↦
          let last = both.0 in record {
            line = line;
            spells = gives.2;
            come = record {
              came = inr (
                last.ends,
                last.nothing_left,
                record {
                  before = lines;
                  last = line;
                  lines_are = refl;
                  some = both.1;
                  read = (
                    subst (Consumes left_old left_new) (ap (λ l. flat_map with_line_feed lines ++ l) last.taken)
                        (read_on left_old left_now left_new lines old last.more come goes_on last.read.0),
                    last.read.1,
                  );
                },
              );
              each = each;
            };
            rest = old.bytes ++ last.more;
            before = λ few. came_with left_old left_now left_new lines old last.more few come goes_on last.read.0;
          }
    ]
  where
    joined : (more : List ℕ) → old.bytes ++ more ≡ with_line_feed gives.0 ++ new.bytes
        → flat_map with_line_feed lines ++ (old.bytes ++ more) ≡ flat_map with_line_feed (lines ++ gives.0 ∷ [])
        ++ new.bytes
    joined more taken = ap (λ l. flat_map with_line_feed lines ++ l) taken
        ∙ sym (append_assoc (flat_map with_line_feed lines) (with_line_feed gives.0) new.bytes)
        ∙ ap (λ l. l ++ new.bytes) (flat_map_more with_line_feed [] lines gives.0)

both_empty : (xs ys : List ℕ) → xs ++ ys ≡ [] → (xs ≡ []) × (ys ≡ [])
both_empty [] ys e = (refl, e)
both_empty (x ∷ xs) ys e = absurd (omega (arith, ap length e))

-- no more lines came
pub all_came : (left_old left_now left_new : Option (List ℕ)) (lines : List (List ℕ)) (old new : Unread)
    → length lines < MOST_LINES → HasCome (between left_old left_now) lines old
    → GivesLine old new (between left_now left_new) None
    → LinesCame (between left_old left_new) lines [] × IsAtEnd left_new × (length lines < MOST_LINES)
all_came left_old left_now left_new lines old new few come gives =
    let parts = both_empty old.bytes gives.more gives.taken in
    let none = parts.1 in
    let empty = parts.0 in
    let end : Consumes left_now left_new [] = subst (Consumes left_now left_new) none gives.read.0 in (
      record {
        came = elim come.came [
          | inl so ↦ inl (subst (Consumes left_old left_new)
              (append-nil _ ∙ ap (λ l. flat_map with_line_feed lines ++ l) empty)
              (Consumes-trans left_old left_now left_new _ [] so.1 end))
          | inr over ↦ inr (
            refl,
            record {
              before = over.2.before;
              last = over.2.last;
              lines_are = over.2.lines_are;
              some = over.2.some;
              read = (
                subst (Consumes left_old left_new) (append-nil _)
                    (Consumes-trans left_old left_now left_new _ [] over.2.read.0 end),
                gives.read.1,
              );
            },
          )
        ];
        each = come.each;
        few = omega (arith, few);
      },
      gives.read.1,
      few,
    )

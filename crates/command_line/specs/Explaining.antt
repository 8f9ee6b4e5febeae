-- The word with which explanations are asked for.
use Rattle.std.specs.Prelude.{Bool, false, ◌||◌, ◌&&◌, not, List, [], ◌∷◌, codes, drop}
use Rattle.std.specs.Prelude.{if◌then◌else◌}
use Rattle.std.specs.Str.{bytes_eq}
use Rattle.clap.specs.Walk.{Text}

-- the word is `--explain`, or `--`, after which all words are paths
abbrev pub is_explain : Text → Bool
is_explain word = bytes_eq word (codes "--explain")

abbrev pub is_dashes : Text → Bool
is_dashes word = bytes_eq word (codes "--")

-- `--explain` is among the words, before `--`
abbrev pub has_explain : List Text → Bool
has_explain [] = false
has_explain (word ∷ rest) = is_explain word || (not (is_dashes word) && has_explain rest)

-- it is among the words after the program's name
abbrev pub asks_to_explain : List Text → Bool
asks_to_explain words = has_explain (drop 1 words)

-- the words of a job: if `--explain` comes first, those from it on, where it stands for the
-- program's name
abbrev pub words_of_job : List Text → List Text
words_of_job (name ∷ word ∷ rest) =
    if is_explain word then word ∷ rest else name ∷ word ∷ rest
words_of_job words = words

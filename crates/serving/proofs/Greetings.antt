-- The greeting of a person who types a board and a document.
use Rattle.std.proofs.Common.{◌≡◌, ◌++◌, true, false, [], refl}
use Rattle.std.specs.Prelude.{codes}
use Rattle.console.specs.declared.streams.Terminals.{Terminals}
use Rattle.player.specs.Prompts.{shown_line}
use Rattle.serving.specs.Telling.{joined_greeting, types_and_sees}

pub ungreeted : (terminals : Terminals) → types_and_sees terminals ≡ false → joined_greeting terminals ≡ []
ungreeted terminals none = rw none refl

pub greeted : (terminals : Terminals) → types_and_sees terminals ≡ true
    → joined_greeting terminals ≡ shown_line (codes "type or paste a board and a strategy "
    ++ codes "document, and Ctrl-D; `pebbles --help` lists the commands")
greeted terminals there = rw there refl

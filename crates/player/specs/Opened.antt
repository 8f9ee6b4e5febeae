-- How a play stands once its opening is written.
use Rattle.std.specs.Prelude.{◌≡◌, ℕ, List}
use Rattle.player.specs.Transcript.{Game, Standing, Going, Over}
use Rattle.player.specs.declared.game.Opened.{Opened}
use Rattle.player.specs.declared.game.Opened.TheVariants.{Goes, Ends}

-- it goes on from a configuration of the game, before the first request; or it is over
abbrev pub StandsAt : {P : Type 0} → (P → Game) → (P → List ℕ) → (P → ℕ) → Game → Opened P
    → Standing → Type 0
StandsAt game_of at_of requests_of game (Goes play) to =
    (game_of play ≡ game) × (requests_of play ≡ 0) × (to ≡ Going (at_of play) 0)
StandsAt game_of at_of requests_of game (Ends end) to = to ≡ Over end

use Rattle.std.proofs.Common.{◌≡◌, ◌≤◌, ℕ, List, [], length, false}
use Rattle.std.specs.Prelude.{string_bytes}
use Rattle.board_text.specs.Streams.{AppendsAll, bytes_of}
use Rattle.player.specs.Prompts.{told_from}
use Rattle.console.specs.Showing.{IsMore}
use Rattle.player.specs.Transcript.{AreResponses, Going}
use Rattle.player.proofs.ReadLines.{HasCome}
use Rattle.player.proofs.turns.play_on.Given as goal

abbrev pub invariant-loop : goal.invariant-loop
invariant-loop g l = record {
  said : List (List ℕ);
  text : List ℕ;
  come : HasCome (bytes_of g.R.Source.remaining l.initial.reader l.reader) said l.lines;
  few : length said ≡ l.counter;
  brought : AreResponses (g.P.Play.game l.initial.play) (Going (g.P.Play.at l.initial.play) 0) said text
      (Going (g.P.Play.at l.play) (g.P.Play.requests l.play));
  written : AppendsAll (bytes_of g.W.Sink.contents l.initial.writer l.writer) text;
  same : g.P.Play.game l.play ≡ g.P.Play.game l.initial.play;
  requests : g.P.Play.requests l.play ≤ length said;
  empty : string_bytes l.text ≡ [];
  reader : g.R.Source.has_failed l.reader ≡ false;
  ended : g.R.Source.has_ended l.reader ≡ l.lines.has_ended;
  writer : g.W.Sink.has_failed l.writer ≡ false;
  told : List ℕ;
  tells : (told_from l.fn.shows (g.P.Play.game l.initial.play) (Going (g.P.Play.at l.initial.play) 0)).Tells told said
      text (Going (g.P.Play.at l.play) (g.P.Play.requests l.play));
  more : IsMore g.E.Sink.contents g.E.Sink.has_failed l.fn.errors l.errors told;
}

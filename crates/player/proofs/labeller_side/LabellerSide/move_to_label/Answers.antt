use Rattle.std.proofs.Common.{List, ℕ, subst}
use Rattle.positions.proofs.Cited.{moved_is_configuration}
use Rattle.player.specs.Inside.PlayState.{IsRequestAt}
use Rattle.player.proofs.AnswerLines.{finite_after, legal_there, put_said, asks_on, asks_last}
use Rattle.player.proofs.labeller_side.LabellerSide.move_to_label.Goals as goal

pub request_at-request-requires : goal.request_at-request-requires
request_at-request-requires g c =
    let i = c.self.invariant in
    let legal = legal_there _ _ c.self.view_is c.self.inside.asked c.args.label i.best c.requires.legal in
    rw (c.as_slice.ensures.value, c.with-configuration.ensures) (record {
      held = moved_is_configuration c.self.inside.moves.now c.self.inside.configuration
          c.self.inside.asked c.args.label
          legal.is_label i.is_configuration;
      finite = finite_after c.self.inside.moves.now c.self.inside.configuration c.self.inside.asked
          c.args.label i.best
          legal;
    })

pub invariant_of-self : goal.invariant_of-self
invariant_of-self g c =
    let i = c.self.invariant in
    let legal = legal_there _ _ c.self.view_is c.self.inside.asked c.args.label i.best c.requires.legal in
    let asked = rw c.in-Asks.is at c.in_ok-pebble.ensures in
    let request = subst (λ (held : List ℕ). IsRequestAt c.self.inside.moves.now held
    c.request_at-request.result)
    c.as_slice.ensures.value c.request_at-request.ensures in
    record {
      is_configuration = rw c.with-configuration.ensures
          (moved_is_configuration c.self.inside.moves.now c.self.inside.configuration
          c.self.inside.asked c.args.label
          legal.is_label i.is_configuration);
      best = rw asked.2.1 request.best;
    }

pub returns-in-Asks-clause-said : goal.returns-in-Asks-clause-said
returns-in-Asks-clause-said g c =
    let i = c.self.invariant in
    let legal = legal_there _ _ c.self.view_is c.self.inside.asked c.args.label i.best c.requires.legal in
    let asked = rw c.in-Asks.is at c.in_ok-pebble.ensures in
    let request = subst (λ (held : List ℕ). IsRequestAt c.self.inside.moves.now held
    c.request_at-request.result)
    c.as_slice.ensures.value c.request_at-request.ensures in
    put_said _ _ c.self.view_is _ c.self.inside.asked c.args.label c.with-configuration.result _ _ _ _ _ _
    c.board-board.ensures i.best legal c.with-configuration.ensures c.as_slice-2.ensures.value c.in_ok-write_at.ensures
    asked.1 (asks_on _ _ _ _ c.in-Asks.pebble _ request asked.2)

pub returns-in-Ends-clause-said : goal.returns-in-Ends-clause-said
returns-in-Ends-clause-said g c =
    let i = c.self.invariant in
    let legal = legal_there _ _ c.self.view_is c.self.inside.asked c.args.label i.best c.requires.legal in
    let asked = rw c.in-Ends.is at c.in_ok-pebble.ensures in
    let request = subst (λ (held : List ℕ). IsRequestAt c.self.inside.moves.now held
    c.request_at-request.result)
    c.as_slice.ensures.value c.request_at-request.ensures in
    put_said _ _ c.self.view_is _ c.self.inside.asked c.args.label c.with-configuration.result _ _ _ _ _ _
    c.board-board.ensures i.best legal c.with-configuration.ensures c.as_slice-2.ensures.value c.in_ok-write_at.ensures
    asked.1 (asks_last _ _ _ _ c.in-Ends.end _ request asked.2)

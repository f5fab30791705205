use Rattle.doc_grammar.specs.Characters.{class}
use Rattle.doc_grammar.specs.Grammar.{strict}
use Rattle.doc_grammar.specs.Machine as m
use Rattle.doc_events.specs.View.{state_of}
use Rattle.doc_events.proofs.Steps.{took_in}
use Rattle.doc_events.proofs.state.Reader.take_any.Goals as goal

pub returns : goal.returns
returns c =
    took_in (m.step strict (state_of c.args.self.now) (class c.args.c) c.args.c) c.in_ok-state.state c.in_ok-state.token c.next.new.self c.in_ok-state.ensures

use Rattle.dp_exchange.proofs.Telling.{told-read}
use Rattle.dp_exchange.proofs.computer.Computer.tell.Goals as goal

pub returns-in-Live-clause-read : goal.returns-in-Live-clause-read
returns-in-Live-clause-read c =
    rw (← c.self.view_is) (told-read c.self.inside c.write_state.new.into.items c.in-Live.is c.written_is_read.ensures c.second_is_unknown_to_first.ensures c.self.invariant.software c.write_state.ensures.state c.write_state.ensures.text)

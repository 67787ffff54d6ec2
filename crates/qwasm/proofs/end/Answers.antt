use Rattle.std.proofs.Common.{◌∙◌}
use Rattle.qwasm.proofs.end.Goals as goal

-- What `qwasm` leaves is what the program leaves.
pub returns-in-Ok-clause-run : goal.returns-in-Ok-clause-run
returns-in-Ok-clause-run g c =
    rw (c.in-Ok.is) (record {
      status = c.qwasm-status.result;
      number = c.from.ensures ∙ c.code.ensures;
      explained = rw (← c.as_slice.ensures.value) c.qwasm-status.ensures.explained;
      kept = c.qwasm-status.new.kept;
      complete = rw (← c.as_slice.ensures.value) c.qwasm-status.ensures.complete;
      left = rw (← c.as_slice.ensures.value) c.qwasm-status.ensures.left;
      noted = rw (← c.as_slice.ensures.value) c.qwasm-status.ensures.noted;
      noted_whole = c.qwasm-status.ensures.noted_whole;
      read_fault = c.qwasm-status.ensures.read_fault;
      no_read_fault = c.qwasm-status.ensures.no_read_fault;
      write_fault = c.qwasm-status.ensures.write_fault;
      no_write_fault = c.qwasm-status.ensures.no_write_fault;
    })

use Rattle.std.proofs.Common.{◌∙◌}
use Rattle.qwasm_layout.proofs.end.Goals as goal

-- What `qwasm_layout` leaves is what the program leaves.
pub returns-in-Ok-clause-told : goal.returns-in-Ok-clause-told
returns-in-Ok-clause-told g c =
    rw (c.in-Ok.is) (record {
      status = c.qwasm_layout-status.result;
      number = c.from.ensures ∙ c.code.ensures;
      explained = rw (← c.as_slice.ensures.value) c.qwasm_layout-status.ensures.explained;
      left = rw (← c.as_slice.ensures.value) c.qwasm_layout-status.ensures.left;
      noted = rw (← c.as_slice.ensures.value) c.qwasm_layout-status.ensures.noted;
      noted_whole = c.qwasm_layout-status.ensures.noted_whole;
      read_fault = c.qwasm_layout-status.ensures.read_fault;
      no_read_fault = c.qwasm_layout-status.ensures.no_read_fault;
      write_fault = c.qwasm_layout-status.ensures.write_fault;
      no_write_fault = c.qwasm_layout-status.ensures.no_write_fault;
    })

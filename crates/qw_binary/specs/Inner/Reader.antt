-- Mirrors `Reader`: what it has read of an expression.
use Rattle.std.specs.Prelude.{map, reverse, Bool, true, false}
use Rattle.qw_octet_grammar.specs.Grammar.{Next, goes_on, ends}
use Rattle.qw_module.specs.Syntax.{Sequences}
use Rattle.qw_module.specs.Validity.{items_of}
use Rattle.qw_binary.specs.Instructions.{Opener, block, loop, first, second, Open, Progress}
use Rattle.qw_binary.specs.declared.read.expression.Opener.{Opener as Opening}
use Rattle.qw_binary.specs.declared.read.expression.Opener.TheVariants as by
use Rattle.qw_binary.specs.declared.read.expression.Around.{Around}
use Rattle.qw_binary.specs.declared.read.expression.Reader.{Reader}

abbrev pub opener_of : Opening → Opener
opener_of (by.Block type) = block type
opener_of (by.Loop type) = loop type
opener_of (by.First type) = first type
opener_of (by.Second type then_body) = second type then_body

abbrev pub open_of : Around → Open
open_of around = record { opener = opener_of around.opener; before = around.before.items }

abbrev pub progress_of : Reader → Progress
progress_of reader =
    record {
      ended = items_of reader.ended.items;
      labels = reader.labels.items;
      around = reverse (map open_of reader.around.items);
      now = reader.now.items;
    }

-- the sequences of a reader that has read the last end
abbrev pub sequences_in : Progress → Sequences
sequences_in p = record { each = p.ended; labels = p.labels }

-- whether an instruction was the last end
abbrev pub after_instruction : Bool → Progress → Next Progress Sequences
after_instruction true p = ends (sequences_in p)
after_instruction false p = goes_on p

-- Which numbers the sequences of a body get from who reads it from left to right (WebAssembly Core Specification 1.0, 2.4.5 and 5.4.1):
-- each gets its number where its end is read.
use Rattle.std.specs.Prelude.{◌≡◌, ℕ, List, [], ◌∷◌, ◌++◌, length, None, Some}
use Rattle.qw_module.specs.declared.instruction.Instr.{Instr}
use Rattle.qw_module.specs.declared.instruction.Instr.TheVariants as i
use Rattle.qw_module.specs.Syntax.{Code, done, op, unreachable, block, loop, if_then, if_else, br, br_if, br_table, return, call, Sequences, code_of}

-- So far: the sequences that have ended, the labels of the br_tables, and the present sequence.
pub record Numbering : Type 0 where
  pub ended : List (List Instr)
  pub labels : List ℕ
  pub now : List Instr

-- one more instruction of the present sequence
abbrev pub and_then : Numbering → Instr → Numbering
and_then n instruction = record n { now = n.now ++ instruction ∷ [] }

-- one more br_table, which names its labels as a range
abbrev pub and_table : Numbering → List ℕ → (default : ℕ) → Numbering
and_table n labels default =
    record { ended = n.ended; labels = n.labels ++ labels; now = n.now ++ i.BrTable (length n.labels) (length labels) default ∷ [] }

-- an inner sequence begins
abbrev pub inside : Numbering → Numbering
inside n = record n { now = [] }

-- the first sequence of an if has ended, and the second begins
abbrev pub at_other : Numbering → Numbering
at_other n = record { ended = n.ended ++ n.now ∷ []; labels = n.labels; now = [] }

-- an inner sequence has ended, which this instruction of the sequence round it holds
abbrev pub held : (outer inner : Numbering) → Instr → Numbering
held outer inner instruction =
    record { ended = inner.ended ++ inner.now ∷ []; labels = inner.labels; now = outer.now ++ instruction ∷ [] }

-- behind a code
abbrev pub numbering : Code → Numbering → Numbering
numbering done n = n
numbering (op o rest) n = numbering rest (and_then n (i.Op o))
numbering (unreachable rest) n = numbering rest (and_then n i.Unreachable)
numbering (block result inner rest) n =
    numbering rest (held n (numbering inner (inside n)) (i.Block result (length (numbering inner (inside n)).ended)))
numbering (loop result inner rest) n =
    numbering rest (held n (numbering inner (inside n)) (i.Loop result (length (numbering inner (inside n)).ended)))
numbering (if_then result inner rest) n =
    numbering rest (held n (numbering inner (inside n)) (i.If result (length (numbering inner (inside n)).ended) None))
numbering (if_else result inner other rest) n =
    numbering rest
    (held n (numbering other (at_other (numbering inner (inside n))))
    (i.If result (length (numbering inner (inside n)).ended) (Some (length (numbering other (at_other (numbering inner (inside n)))).ended))))
numbering (br label rest) n = numbering rest (and_then n (i.Br label))
numbering (br_if label rest) n = numbering rest (and_then n (i.BrIf label))
numbering (br_table labels default rest) n = numbering rest (and_table n labels default)
numbering (return rest) n = numbering rest (and_then n i.Return)
numbering (call index rest) n = numbering rest (and_then n (i.Call index))

abbrev pub at_start : Numbering
at_start = record { ended = []; labels = []; now = [] }

-- the outermost sequence has ended
abbrev pub sequences_in : Numbering → Sequences
sequences_in n = record { each = n.ended ++ n.now ∷ []; labels = n.labels }

-- the numbered body of a code
abbrev pub numbered : Code → Sequences
numbered code = sequences_in (numbering code at_start)

-- A body's sequences, and its labels, stand in the order in which they are read. Only such a body has a spelling.
abbrev pub IsInOrder : Sequences → Type 0
IsInOrder body = body ≡ numbered (code_of body)

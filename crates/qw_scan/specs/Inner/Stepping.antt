-- Mirrors `Walk::step`: the typing of a body, computed token by token, with no code of what is to come.
use Rattle.std.specs.Prelude.{List, [], ◌∷◌, Option, None}
use Rattle.qw_valid.specs.declared.walk.Opener.{Opener}
use Rattle.qw_valid.specs.declared.walk.Opener.TheVariants.{Then}
use Rattle.qw_module.specs.Syntax.{Code, done, op, unreachable, block, loop, if_then, br, br_if, br_table, return, call}
use Rattle.qw_module.specs.Places.{Typing, Token, plain, unreachable_here, block_begins, loop_begins, if_begins, else_begins, ends, branches, branches_if, branches_by, returns, calls}
use Rattle.qw_valid.specs.Inner.Checking.{Known, Around, Walked, turned, advanced_by}

-- a token with nothing after it or in it
abbrev pub alone : Token → Code
alone (plain o) = op o done
alone unreachable_here = unreachable done
alone (block_begins result) = block result done done
alone (loop_begins result) = loop result done done
alone (if_begins result) = if_then result done done
alone else_begins = done
alone ends = done
alone (branches label) = br label done
alone (branches_if label) = br_if label done
alone (branches_by labels default) = br_table labels default done
alone returns = return done
alone (calls index) = call index done

-- what is around, with this sequence to come behind its `else`
abbrev pub with_other : Option Code → Around → Around
with_other other a = record { opener = a.opener; result = a.result; below = a.below; other = other; after = a.after }

-- at an else, which stands only behind the first sequence of an if
abbrev pub at_else_of : Opener → Around → List Around → Known → Option Walked
at_else_of Then a around known = turned a done around known
at_else_of _ a around known = None

-- one token more; None where it is refused
abbrev pub stepped : Typing → Token → Known → List Around → Option Walked
stepped f token known [] = None
stepped f else_begins known (a ∷ around) = at_else_of a.opener a around known
stepped f token known (a ∷ around) = advanced_by f (alone token) known (with_other None a ∷ around)

-- the same where what is around names no sequence to come
abbrev pub else_around : List Around → Known → Option Walked
else_around [] known = None
else_around (a ∷ around) known = at_else_of a.opener a around known

abbrev pub walks : Typing → Token → Known → List Around → Option Walked
walks f else_begins known around = else_around around known
walks f token known around = advanced_by f (alone token) known around

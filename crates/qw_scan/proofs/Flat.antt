-- The places of what has been read of an expression, before more.
use Rattle.std.proofs.Common.{◌≡◌, List, [], ◌∷◌, ◌++◌, Some, None, refl, ap, ◌∙◌}
use Rattle.qw_module.specs.declared.instruction.Instr.{Instr}
use Rattle.qw_module.specs.declared.instruction.Instr.TheVariants as i
use Rattle.qw_module.specs.Syntax.{Code, done, op, unreachable, block as block', loop as loop', if_then, if_else, br, br_if, br_table, return, call, Sequences, labels_in, nested, named}
use Rattle.qw_module.specs.Places.{Token, plain, unreachable_here, block_begins, loop_begins, if_begins, else_begins, ends, branches, branches_if, branches_by, returns, calls, tokens_before}
use Rattle.qw_binary.specs.Instructions.{Opener, block, loop, first, second, Open}
use Rattle.qw_binary.specs.Inner.Followed.{IsAlone, IsFresh}
use Rattle.qw_scan.specs.Places.{token_of, opening}

-- ---- the places of code

pub tokens-append : (code : Code) (xs ys : List Token) → tokens_before code (xs ++ ys) ≡ tokens_before code xs ++ ys
tokens-append done xs ys = refl
tokens-append (op o rest) xs ys = ap (λ (ts : List Token). plain o ∷ ts) (tokens-append rest xs ys)
tokens-append (unreachable rest) xs ys = ap (λ (ts : List Token). unreachable_here ∷ ts) (tokens-append rest xs ys)
tokens-append (block' result inner rest) xs ys =
    ap (λ (ts : List Token). block_begins result ∷ tokens_before inner (ends ∷ ts)) (tokens-append rest xs ys)
    ∙ ap (λ (ts : List Token). block_begins result ∷ ts) (tokens-append inner (ends ∷ tokens_before rest xs) ys)
tokens-append (loop' result inner rest) xs ys =
    ap (λ (ts : List Token). loop_begins result ∷ tokens_before inner (ends ∷ ts)) (tokens-append rest xs ys)
    ∙ ap (λ (ts : List Token). loop_begins result ∷ ts) (tokens-append inner (ends ∷ tokens_before rest xs) ys)
tokens-append (if_then result inner rest) xs ys =
    ap (λ (ts : List Token). if_begins result ∷ tokens_before inner (ends ∷ ts)) (tokens-append rest xs ys)
    ∙ ap (λ (ts : List Token). if_begins result ∷ ts) (tokens-append inner (ends ∷ tokens_before rest xs) ys)
tokens-append (if_else result inner other rest) xs ys =
    ap (λ (ts : List Token). if_begins result ∷ tokens_before inner (else_begins ∷ tokens_before other (ends ∷ ts))) (tokens-append rest xs ys)
    ∙ ap (λ (ts : List Token). if_begins result ∷ tokens_before inner (else_begins ∷ ts)) (tokens-append other (ends ∷ tokens_before rest xs) ys)
    ∙ ap (λ (ts : List Token). if_begins result ∷ ts) (tokens-append inner (else_begins ∷ tokens_before other (ends ∷ tokens_before rest xs)) ys)
tokens-append (br label rest) xs ys = ap (λ (ts : List Token). branches label ∷ ts) (tokens-append rest xs ys)
tokens-append (br_if label rest) xs ys = ap (λ (ts : List Token). branches_if label ∷ ts) (tokens-append rest xs ys)
tokens-append (br_table labels default rest) xs ys = ap (λ (ts : List Token). branches_by labels default ∷ ts) (tokens-append rest xs ys)
tokens-append (return rest) xs ys = ap (λ (ts : List Token). returns ∷ ts) (tokens-append rest xs ys)
tokens-append (call index rest) xs ys = ap (λ (ts : List Token). calls index ∷ ts) (tokens-append rest xs ys)

-- the places of flat instructions of a body, before more
abbrev pub flat : Sequences → List Instr → List Token → List Token
flat s xs more = tokens_before (nested s.labels (named s) xs) more

module _ (s : Sequences) where
  pub flat-behind : (xs ys : List Instr) (more : List Token) → flat s (xs ++ ys) more ≡ flat s xs (flat s ys more)
  flat-behind [] ys more = refl
  flat-behind (i.Op o ∷ rest) ys more = ap (λ (ts : List Token). plain o ∷ ts) (flat-behind rest ys more)
  flat-behind (i.Unreachable ∷ rest) ys more = ap (λ (ts : List Token). unreachable_here ∷ ts) (flat-behind rest ys more)
  flat-behind (i.Block result body ∷ rest) ys more = ap (λ (ts : List Token). block_begins result ∷ tokens_before (named s body) (ends ∷ ts)) (flat-behind rest ys more)
  flat-behind (i.Loop result body ∷ rest) ys more = ap (λ (ts : List Token). loop_begins result ∷ tokens_before (named s body) (ends ∷ ts)) (flat-behind rest ys more)
  flat-behind (i.If result then_body None ∷ rest) ys more = ap (λ (ts : List Token). if_begins result ∷ tokens_before (named s then_body) (ends ∷ ts)) (flat-behind rest ys more)
  flat-behind (i.If result then_body (Some else_body) ∷ rest) ys more =
      ap (λ (ts : List Token). if_begins result ∷ tokens_before (named s then_body) (else_begins ∷ tokens_before (named s else_body) (ends ∷ ts))) (flat-behind rest ys more)
  flat-behind (i.Br label ∷ rest) ys more = ap (λ (ts : List Token). branches label ∷ ts) (flat-behind rest ys more)
  flat-behind (i.BrIf label ∷ rest) ys more = ap (λ (ts : List Token). branches_if label ∷ ts) (flat-behind rest ys more)
  flat-behind (i.BrTable from count default ∷ rest) ys more =
      ap (λ (ts : List Token). branches_by (labels_in s.labels from count) default ∷ ts) (flat-behind rest ys more)
  flat-behind (i.Return ∷ rest) ys more = ap (λ (ts : List Token). returns ∷ ts) (flat-behind rest ys more)
  flat-behind (i.Call index ∷ rest) ys more = ap (λ (ts : List Token). calls index ∷ ts) (flat-behind rest ys more)

  pub flat-alone : (x : Instr) (more : List Token) → IsAlone x → flat s (x ∷ []) more ≡ token_of x ∷ more
  flat-alone (i.Block result body) more alone = absurd alone
  flat-alone (i.Loop result body) more alone = absurd alone
  flat-alone (i.If result then_body else_body) more alone = absurd alone
  flat-alone (i.BrTable from count default) more alone = absurd alone
  flat-alone _ more alone = refl

  -- ---- where a sequence is open

  -- the places from where an instruction begins to the beginning of its sequence that is open
  abbrev pub opened : Opener → List Token → List Token
  opened (block type) more = block_begins type ∷ more
  opened (loop type) more = loop_begins type ∷ more
  opened (first type) more = if_begins type ∷ more
  opened (second type then_body) more = if_begins type ∷ tokens_before (named s then_body) (else_begins ∷ more)

  opened-append : (opener : Opener) (xs ys : List Token) → opened opener (xs ++ ys) ≡ opened opener xs ++ ys
  opened-append (second type then_body) xs ys = ap (λ (ts : List Token). if_begins type ∷ ts) (tokens-append (named s then_body) (else_begins ∷ xs) ys)
  opened-append _ xs ys = refl

  pub opened-fresh : (opener : Opener) (more : List Token) → IsFresh opener → opened opener more ≡ opening opener ∷ more
  opened-fresh (second type then_body) more fresh = absurd fresh
  opened-fresh _ more fresh = refl

  -- the places up to the beginning of the present sequence, before more
  abbrev pub passed_round : List Open → List Token → List Token
  passed_round [] more = more
  passed_round (outer ∷ around) more = passed_round around (flat s outer.before (opened outer.opener more))

  pub round-append : (around : List Open) (xs ys : List Token) → passed_round around (xs ++ ys) ≡ passed_round around xs ++ ys
  round-append [] xs ys = refl
  round-append (outer ∷ around) xs ys =
      ap (λ (ts : List Token). passed_round around (flat s outer.before ts)) (opened-append outer.opener xs ys)
      ∙ ap (λ (ts : List Token). passed_round around ts) (tokens-append (nested s.labels (named s) outer.before) (opened outer.opener xs) ys)
      ∙ round-append around (flat s outer.before (opened outer.opener xs)) ys

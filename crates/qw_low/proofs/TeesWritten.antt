-- The pass over the steps of a statement writes its code: what `body::Writer` has written is what is written with each set and each get by
-- itself, fused.
use Rattle.std.proofs.Common.{◌≡◌, ℕ, suc, ◌+◌, ◌<◌, ◌≤◌, List, [], ◌∷◌, ◌++◌, length, map, drop, get_or, drop-cons, None, refl, sym, ap, ◌∙◌, subst, arith}
use Rattle.std.specs.List.{AllByRecursion}
use Rattle.std.proofs.lemmas.List.{at_drop_all, length-map, map-append}
use Rattle.qw_module.specs.declared.instruction.Instr.{Instr}
use Rattle.qw_module.specs.declared.instruction.Instr.TheVariants as i
use Rattle.qw_module.specs.declared.instruction.Op.TheVariants as o
use Rattle.qw_module.specs.declared.instruction.Const.TheVariants as const
use Rattle.qw_module.specs.Syntax.{done, code_of, IsNumbered}
use Rattle.qw_module.specs.Numbering.{IsInOrder}
use Rattle.qw_module.specs.Validity.{CallsBelow}
use Rattle.qw_low.specs.declared.step.LowStep.{LowStep}
use Rattle.qw_low.specs.declared.step.LowStep.TheVariants as step
use Rattle.qw_low.specs.declared.body.Opened.{Opened}
use Rattle.qw_low.specs.declared.body.Opened.TheVariants as opened
use Rattle.qw_low.specs.Syntax.{Statement}
use Rattle.qw_low.specs.Translation.{statement_code}
use Rattle.qw_low.specs.Steps.{steps_of}
use Rattle.qw_low.specs.Inner.Tees.{fused, fused_code, pair, pushed, tee_of}
use Rattle.qw_low.specs.Inner.Writing.{Writing, writing, adds, appended, all_written, bodies_in, closed, closing, start, turned, unlabelled, written}
use Rattle.qw_low.proofs.Calls.{plain_calls}
use Rattle.qw_low.proofs.StepsNumbered.{plain_in_order}
use Rattle.qw_low.proofs.StepsWritten.{plain_numbered, plain_written}
use Rattle.qw_low.proofs.Tees.{code_of-fused, each_fused-all, fused-pushed, numbered-fused, statement-fused}
use Rattle.qw_low.proofs.TeesNumbered.{order-fused}

-- ---- the loop over all steps
pub step-left : (code : List LowStep) (n : ℕ) (d : LowStep) (w w' total : Writing) → n < length code → all_written pushed (drop n code) w ≡ total → w' ≡ written pushed (get_or code n d) w →
    all_written pushed (drop (n + 1) code) w' ≡ total
step-left code n d w w' total below left is =
    let more : n + 1 ≡ suc n = omega arith in
    rw (more, is) (rw (drop-cons code n d below) at left)

pub none-left : (code : List LowStep) (n : ℕ) (w total : Writing) → length code ≤ n → all_written pushed (drop n code) w ≡ total → w ≡ total
none-left code n w total all left = sym (at_drop_all (λ (steps : List LowStep). all_written pushed steps w) code n all) ∙ left

-- ---- each step
abbrev waiting_fused : List Instr × Opened → List Instr × Opened
waiting_fused w = (fused w.0, w.1)

abbrev writing_fused : Writing → Writing
writing_fused w = writing (map fused w.finished) (fused w.current) (map waiting_fused w.waiting)

adds-fused : (w : Writing) (next : Instr) → adds pushed next (writing_fused w) ≡ writing_fused (adds appended next w)
adds-fused w next = ap (λ (current : List Instr). writing (map fused w.finished) current (map waiting_fused w.waiting)) (sym (fused-pushed w.current next))

turned-fused : (finished : List (List Instr)) (current : List Instr) (waiting : List (List Instr × Opened)) →
    turned (map fused finished) (fused current) (map waiting_fused waiting) ≡ writing_fused (turned finished current waiting)
turned-fused finished current [] = refl
turned-fused finished current (w ∷ waiting) = rw (length-map finished fused, map-append fused finished (current ∷ [])) refl

closing-no_tee : (last : Instr) (what : Opened) (number : ℕ) → tee_of last (closing what number) ≡ None
closing-no_tee (i.Op (o.LocalSet x)) opened.If number = refl
closing-no_tee (i.Op (o.LocalSet x)) (opened.Else first) number = refl
closing-no_tee (i.Op (o.LocalSet x)) opened.Loop number = refl
closing-no_tee _ what number = refl

pushed-closing : (sequence : List Instr) (what : Opened) (number : ℕ) → pushed sequence (closing what number) ≡ sequence ++ closing what number ∷ []
pushed-closing [] what number = refl
pushed-closing (last ∷ []) what number = ap (pair last (closing what number)) (closing-no_tee last what number)
pushed-closing (first ∷ second ∷ rest) what number = ap (λ (tail : List Instr). first ∷ tail) (pushed-closing (second ∷ rest) what number)

closed-fused : (finished : List (List Instr)) (current : List Instr) (waiting : List (List Instr × Opened)) →
    closed (map fused finished) (fused current) (map waiting_fused waiting) ≡ writing_fused (closed finished current waiting)
closed-fused finished current [] = refl
closed-fused finished current (w ∷ waiting) =
    rw (length-map finished fused, map-append fused finished (current ∷ []), fused-pushed w.0 (closing w.1 (length finished)), pushed-closing (fused w.0) w.1 (length finished)) refl

written-fused : (x : LowStep) (w : Writing) → written pushed x (writing_fused w) ≡ writing_fused (written appended x w)
written-fused (step.Op operator) w = adds-fused w (i.Op operator)
written-fused step.If w = refl
written-fused step.Else w = turned-fused w.finished w.current w.waiting
written-fused step.Loop w = refl
written-fused step.Again w = adds-fused w (i.BrIf 0)
written-fused step.End w = closed-fused w.finished w.current w.waiting
written-fused step.Ask w = adds-fused w (i.Call 1)
written-fused (step.Raise code) w =
    let first : Instr = i.Op (o.Const (const.I32 code)) in
    ap (adds pushed (i.Call 0)) (adds-fused w first) ∙ adds-fused (adds appended first w) (i.Call 0)
written-fused step.Exit w = adds-fused w i.Return

all_written-fused : (code : List LowStep) (w : Writing) → all_written pushed code (writing_fused w) ≡ writing_fused (all_written appended code w)
all_written-fused [] w = refl
all_written-fused (x ∷ code) w = ap (all_written pushed code) (written-fused x w) ∙ all_written-fused code (written appended x w)

-- ---- the whole pass
module _ (code : List LowStep) (w : Writing) (w_is : w ≡ all_written pushed code start) (bodies : List (List Instr)) (bodies_are : bodies ≡ bodies_in w) where
  -- with each set and each get by itself
  abbrev plain : List (List Instr)
  plain = bodies_in (all_written appended code start)

  are_fused : bodies ≡ map fused plain
  are_fused =
      let w' : Writing = all_written appended code start in
      bodies_are ∙ ap bodies_in (w_is ∙ all_written-fused code start) ∙ sym (map-append fused w'.finished (w'.current ∷ []))

  pub calls_written : AllByRecursion (AllByRecursion (CallsBelow 2)) bodies
  calls_written = subst (AllByRecursion (AllByRecursion (CallsBelow 2))) (sym are_fused) (each_fused-all (CallsBelow 2) (λ x. tt) plain (plain_calls code))

  module _ (s : Statement) (code_is : code ≡ steps_of s) where
    pub written_code : code_of (unlabelled bodies) ≡ statement_code s done
    written_code =
        ap (λ (b : List (List Instr)). code_of (unlabelled b)) are_fused
        ∙ code_of-fused plain
        ∙ ap fused_code (plain_written s code code_is)
        ∙ statement-fused s done

    pub written_numbered : IsNumbered (unlabelled bodies)
    written_numbered = subst (λ (b : List (List Instr)). IsNumbered (unlabelled b)) (sym are_fused) (numbered-fused plain (plain_numbered s code code_is))

    pub written_in_order : IsInOrder (unlabelled bodies)
    written_in_order =
        subst (λ (b : List (List Instr)). IsInOrder (unlabelled b)) (sym are_fused)
        (order-fused plain (plain_in_order s code code_is (plain_written s code code_is)))

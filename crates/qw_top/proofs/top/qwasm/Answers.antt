use Rattle.std.proofs.Common.{map, refl, subst, Some}
use Rattle.std.specs.String.{string_bytes}
use Rattle.qw_command_line.specs.Words.{Reading, reading}
use Rattle.qw_top.specs.Call.{Explains, ExplainsBy}
use Rattle.qw_top.specs.Limits.{limits_of}
use Rattle.qw_top.specs.Top.{Files}
use Rattle.qw_top.proofs.CallLemmas.{check_ends, compile_ends, ends_by}
use Rattle.qw_top.proofs.CompleteLemmas.{ends_as_meant}
use Rattle.qw_top.proofs.InputLemmas.{input_explains, input_leaves}
use Rattle.qw_top.proofs.SettleLemmas.{enough_explained, plain_explained, runs_explained}
use Rattle.qw_top.proofs.top.qwasm.Goals as goal

pub returns-clause-exactly : goal.returns-clause-exactly
returns-clause-exactly g c told cause is h =
    let words = map string_bytes c.args.words.now in
    ends_by told c.one_answer.ensures.one c.one_answer.ensures.never_both (reading words) cause c.perform.new.kept c.perform.result h
    (subst (λ (f : Files). Explains f words c.perform.new.kept c.perform.result) is c.perform.ensures.explained)

pub returns-clause-runs : goal.returns-clause-runs
returns-clause-runs g c options schema tables queries (told, names, is, held) room =
    let why = input_explains (g.F.Shelf.files c.args.files.now) _ (reading (map string_bytes c.args.words.now)) c.perform.new.kept c.perform.result is c.perform.ensures.explained in
    runs_explained (limits_of options) (Some told) names c.perform.new.kept c.perform.result why told schema tables queries refl held room

pub returns-clause-enough : goal.returns-clause-enough
returns-clause-enough g c options schema tables queries b (told, names, is, held) kept enough =
    let why = input_explains (g.F.Shelf.files c.args.files.now) _ (reading (map string_bytes c.args.words.now)) c.perform.new.kept c.perform.result is c.perform.ensures.explained in
    enough_explained (limits_of options) (Some told) names c.perform.new.kept c.perform.result why told schema tables queries refl held b kept enough

pub returns-clause-plain : goal.returns-clause-plain
returns-clause-plain g c options schema tables queries (told, names, is, held) none =
    let why = input_explains (g.F.Shelf.files c.args.files.now) _ (reading (map string_bytes c.args.words.now)) c.perform.new.kept c.perform.result is c.perform.ensures.explained in
    plain_explained (limits_of options) (Some told) names c.perform.new.kept c.perform.result why told schema tables queries refl held none

pub returns-clause-complete : goal.returns-clause-complete
returns-clause-complete g c options schema tables queries (told, names, is, held) room enough =
    let files = g.F.Shelf.files c.args.files.now in
    let r = reading (map string_bytes c.args.words.now) in
    let old = g.O.Sink.taken c.args.out.now in
    let new = g.O.Sink.taken c.perform.new.out in
    let why = input_explains files _ r c.perform.new.kept c.perform.result is c.perform.ensures.explained in
    let left = input_leaves files _ r c.perform.new.kept c.perform.result old new is c.perform.ensures.left in
    ends_as_meant options (Some told) names c.perform.new.kept c.perform.result old new told schema tables queries refl held why left room enough

pub returns-clause-compiles : goal.returns-clause-compiles
returns-clause-compiles g c told one is (names, k, are, has) =
    let told_here = subst (λ (f : Files). Explains f (map string_bytes c.args.words.now) c.perform.new.kept c.perform.result) is c.perform.ensures.explained in
    compile_ends told c.one_answer.ensures.one c.one_answer.ensures.never_both names k one c.perform.new.kept c.perform.result has
    (subst (λ (r : Reading). ExplainsBy (Some told) r c.perform.new.kept c.perform.result) are told_here)

pub returns-clause-checks : goal.returns-clause-checks
returns-clause-checks g c told is (name, are, valid) =
    let told_here = subst (λ (f : Files). Explains f (map string_bytes c.args.words.now) c.perform.new.kept c.perform.result) is c.perform.ensures.explained in
    check_ends told c.one_answer.ensures.one c.one_answer.ensures.never_both name c.perform.new.kept c.perform.result valid
    (subst (λ (r : Reading). ExplainsBy (Some told) r c.perform.new.kept c.perform.result) are told_here)

use Rattle.std.proofs.Common.{◌≤◌, ◌+◌, ◌*◌, ◌++◌, ◌∷◌, [], ℕ, Option, List, length, sym, ap, ap₂, ◌∙◌, subst, arith}
use Rattle.std.specs.List.{AllByRecursion, concat}
use Rattle.std.specs.Option.{option_to_list}
use Rattle.qw_read.specs.declared.constant.Constant.{Constant}
use Rattle.qw_physical.specs.Coded.{pipeline_of}
use Rattle.qw_physical.specs.declared.pipeline.Pipeline.{Pipeline}
use Rattle.qw_compile.specs.Placed.{CanPlace}
use Rattle.qw_compile.specs.QueryLiterals.{query_words}
use Rattle.qw_compile.specs.QueryLocals.{own_start, word_start}
use Rattle.qw_compile.specs.QueryMade.{ArePlacesOf}
use Rattle.qw_compile.proofs.LeavesFew.{few_words}
use Rattle.qw_compile.proofs.LiteralLemmas.{words_many}
use Rattle.qw_compile.proofs.QueryPlaced.{all_place, are_placed}
use Rattle.qw_compile.proofs.StatementLengths.{never_none}
use Rattle.qw_compile_whole.proofs.GatheringLengths.{words_few}
use Rattle.qw_compile_whole.proofs.StatementAround.{snoc_same, some_of}
use Rattle.qw_compile_whole.proofs.statement_around.placed_passes.Goals as goal

pub literal_locals-requires-clause-words : goal.literal_locals-requires-clause-words
literal_locals-requires-clause-words c =
    let are = some_of (ArePlacesOf c.args.tables c.args.texts.items c.deref.result.now c.args.columns.now) _ _ c.in-Some.is c.in_ok-places.ensures.placed in
    let m = c.len-word_count.ensures ∙ (c.in-Some.places.constants.ok.0 ∙ (ap (λ (l : List Constant). length l) are.constants ∙ words_many (word_start c.args.tables (length c.args.texts.items)) (query_words c.deref.result.now))) in
    omega (arith, m, are.few_words)

pub own_start-first-requires-clause-literals : goal.own_start-first-requires-clause-literals
own_start-first-requires-clause-literals c =
    let are = some_of (ArePlacesOf c.args.tables c.args.texts.items c.deref.result.now c.args.columns.now) _ _ c.in-Some.is c.in_ok-places.ensures.placed in
    let n = c.len-text_count.ensures ∙ (c.in-Some.places.texts.ok.0 ∙ ap (λ (l : List (List ℕ)). length l) are.texts_are) in
    let m = c.len-word_count.ensures ∙ (c.in-Some.places.constants.ok.0 ∙ (ap (λ (l : List Constant). length l) are.constants ∙ words_many (word_start c.args.tables (length c.args.texts.items)) (query_words c.deref.result.now))) in
    omega (arith, c.literal_locals.ensures, n, m, are.few, are.few_words)

pub returns-clause-placed : goal.returns-clause-placed
returns-clause-placed c =
    let t = c.args.tables in
    let ts = c.args.texts.items in
    let ps = c.args.pipelines.items in
    let all = c.args.pipelines.items ++ c.args.behind ∷ [] in
    let cs = c.args.columns.now in
    let viewed = c.deref.ensures.value ∙ c.in_ok-push.ensures.items in
    let are = subst (λ (l : List Pipeline). ArePlacesOf c.args.tables c.args.texts.items l c.args.columns.now c.in-Some.places) viewed
    (some_of (ArePlacesOf c.args.tables c.args.texts.items c.deref.result.now c.args.columns.now) _ _ c.in-Some.is c.in_ok-places.ensures.placed) in
    let n = c.len-text_count.ensures ∙ (c.in-Some.places.texts.ok.0 ∙ ap (λ (l : List (List ℕ)). length l) are.texts_are) in
    let m = c.len-word_count.ensures ∙ (c.in-Some.places.constants.ok.0 ∙ (ap (λ (l : List Constant). length l) are.constants ∙ words_many (word_start t (length ts)) (query_words all))) in
    let start = c.own_start-first.ensures ∙ ap (λ (x : ℕ). own_start t x (length cs)) (c.literal_locals.ensures ∙ ap₂ (λ (x y : ℕ). 2 * x + y) n m) in
    let same = snoc_same c.pop.new.self.items ps c.in-Some-pop.last c.args.behind (sym (c.pop.ensures.items ∙ ap (λ (o : Option Pipeline). c.pop.new.self.items ++ option_to_list o) c.in-Some-pop.is) ∙ c.in_ok-push.ensures.items) in
    record {
      are = are;
      short = subst (λ (l : List (List ℕ)). length (concat l) ≤ 16384) (sym are.texts_are) are.short;
      first_is = start;
      placed = are_placed t ts all cs c.in-Some.places are c.requires.few c.requires.columns c.requires.sized c.own_start-first.result start;
      pipelines_are = same.0;
      behind_is = same.1;
      can = subst (AllByRecursion (λ (p : Pipeline). CanPlace c.in-Some.places (pipeline_of p))) (sym same.0) (all_place t ts all cs c.in-Some.places are ps c.requires.stand);
    }

pub returns-in_default-clause-there : goal.returns-in_default-clause-there
returns-in_default-clause-there c = λ groups short few octets.
    let ps = c.args.pipelines.items in
    let b = c.args.behind in
    let viewed = c.deref.ensures.value ∙ c.in_ok-push.ensures.items in
    let words = words_few ps b groups (length (query_words (ps ++ b ∷ []))) short (few_words (ps ++ b ∷ [])) in
    let same = ap (λ (l : List Pipeline). length (query_words l)) viewed in
    absurd (never_none c.in_ok-places.field-0 (c.in_ok-places.ensures.there (omega (arith, few)) octets (omega (arith, words, same))) c.in_default.not-Some)

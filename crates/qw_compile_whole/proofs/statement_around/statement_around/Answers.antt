use Rattle.std.proofs.Common.{◌≡◌, ◌++◌, ℕ, List, length, ap, ap₂, ◌∙◌, subst, arith}
use Rattle.std.specs.List.{concat}
use Rattle.qw_module.specs.declared.instruction.ValType.{ValType}
use Rattle.qw_low.specs.Steps.{steps_of}
use Rattle.qw_map.specs.Layout.{entry_offset}
use Rattle.qw_feed.specs.Room.{space_block}
use Rattle.qw_read.specs.Constants.{SetsAll}
use Rattle.qw_read.specs.Texts.{LeadsToAll}
use Rattle.qw_read.specs.declared.constant.Constant.{Constant}
use Rattle.qw_read.specs.declared.literal.Literal.{Literal}
use Rattle.qw_compile.specs.QueryLiterals.{query_words}
use Rattle.qw_compile.specs.QueryLocals.{query_locals, text_start, word_start}
use Rattle.qw_compile.proofs.LiteralLemmas.{texts_many, words_many}
use Rattle.qw_compile_whole.proofs.GatheringLengths.{few_locals, few_steps}
use Rattle.qw_compile_whole.proofs.statement_around.statement_around.Goals as goal

pub returns-clause-around : goal.returns-clause-around
returns-clause-around c = λ texts all are.
    let made = c.in_ok-block.ensures in
    let e = c.args.emitted in
    let used = c.args.used.items in
    let n = c.len-text_count.ensures ∙ (c.args.places.now.texts.ok.0 ∙ ap (λ (l : List (List ℕ)). length l) are.texts_are) in
    let m = c.len-word_count.ensures ∙ (c.args.places.now.constants.ok.0 ∙ (ap (λ (l : List Constant). length l) are.constants ∙ words_many (word_start c.args.tables (length texts)) (query_words all))) in
    record {
      leads = made.0;
      sets = made.1;
      leads_all = subst (λ (l : List Literal). LeadsToAll l made.0) (c.deref-3.ensures.value ∙ are.literals) made.2;
      sets_all = subst (λ (l : List Constant). SetsAll l made.1) (c.deref-4.ensures.value ∙ are.constants) made.3;
      code_is = made.4 ∙ ap (λ (s : ℕ). steps_of (space_block s) ++ (steps_of made.0 ++ (steps_of made.1 ++ c.args.emitted.block.code.items))) c.descriptor_size-size.ensures;
      locals_are = c.in_ok-locals.ensures ∙ (ap₂ (λ (x y : ℕ). query_locals c.args.tables x y c.args.columns.now c.deref-2.result.now) n m ∙ ap (query_locals c.args.tables (length texts) (length (query_words all)) c.args.columns.now) c.deref-2.ensures.value);
      layout_is = subst (λ (l : List ℕ). c.new-layout.result ≡ record { columns = used; literals = l; cells = e.kinds.items }) (c.in_ok-octets.ensures ∙ ap concat (c.deref.ensures.value ∙ are.texts_are)) c.new-layout.ensures;
      utf8 = are.utf8;
    }

pub returns-clause-short : goal.returns-clause-short
returns-clause-short c = λ texts all are few few_words short.
    let made = c.in_ok-block.ensures in
    let e = c.args.emitted in
    let n = c.len-text_count.ensures ∙ (c.args.places.now.texts.ok.0 ∙ ap (λ (l : List (List ℕ)). length l) are.texts_are) in
    let m = c.len-word_count.ensures ∙ (c.args.places.now.constants.ok.0 ∙ (ap (λ (l : List Constant). length l) are.constants ∙ words_many (word_start c.args.tables (length texts)) (query_words all))) in
    let leading = ap (λ (l : List Literal). length l) (c.deref-3.ensures.value ∙ are.literals) ∙ texts_many (text_start c.args.tables) (entry_offset (length c.args.columns.now)) texts in
    let setting = ap (λ (l : List Constant). length l) (c.deref-4.ensures.value ∙ are.constants) ∙ words_many (word_start c.args.tables (length texts)) (query_words all) in (
      few_steps c.descriptor_size-size.result (length texts) (length (query_words all)) made.0 made.1 e.block.code.items c.in_ok-block.block.code.items e.own.items made.4 (omega (arith, made.2.short, leading)) (omega (arith, made.3.short, setting)) short few few_words,
      few_locals c.args.tables c.len-text_count.result c.len-word_count.result c.args.columns.now e.own.items c.in_ok-locals.locals.items e.block.code.items
          (c.in_ok-locals.ensures ∙ ap (λ (l : List ValType). query_locals c.args.tables c.len-text_count.result c.len-word_count.result c.args.columns.now l) c.deref-2.ensures.value) short c.requires.few (omega (arith, n, few)) (omega (arith, m, few_words)) c.requires.columns,
    )

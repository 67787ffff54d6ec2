use Rattle.std.proofs.Common.{length, refl, sym, ap, subst, ◌∙◌}
use Rattle.std.proofs.lemmas.Option.{slice_get_read}
use Rattle.qw_module.specs.Places.{Typing, tokens_of, IsRefusedAt}
use Rattle.qw_module.specs.Validity.{code_of_body, declared_types, IsValidType}
use Rattle.qw_valid.specs.declared.valid.Part.TheVariants as part
use Rattle.qw_valid.proofs.ValidBodies.{have_types, typing_is, typing_same, valid_by}
use Rattle.qw_valid.proofs.valid.check_function.Goals as goal

pub result_of-requires : goal.result_of-requires
result_of-requires c =
    let m = c.args.module.now in
    subst IsValidType (sym c.index-ty.ensures) (c.requires.parts part.Types c.args.function.now.type_index c.index-ty.result.now c.requires.body.0)

pub check_body-requires-clause-types : goal.check_body-requires-clause-types
check_body-requires-clause-types c = have_types c.args.module.now (c.requires.parts part.Imports) (c.requires.parts part.Functions)

pub returns-clause-valid : goal.returns-clause-valid
returns-clause-valid c =
    let m = c.args.module.now in
    let f = c.args.function.now in
    let ty = c.index-ty.result.now in
    let found = slice_get_read m.types.items (length m.types.items) f.type_index ty refl c.requires.body.0 c.index-ty.ensures in
    valid_by c.check_body.result m f ty _ (typing_same m f ty _ _ _ c.deref-2.ensures.value ((rw c.in_ok-locals.ensures.ok_part at c.new.ensures) ∙ ap declared_types c.deref.ensures.value) c.result_of.ensures) found c.requires.body c.check_body.ensures.typable

pub returns-clause-refused : goal.returns-clause-refused
returns-clause-refused c =
    let m = c.args.module.now in
    let f = c.args.function.now in
    let ty = c.index-ty.result.now in
    let found = slice_get_read m.types.items (length m.types.items) f.type_index ty refl c.requires.body.0 c.index-ty.ensures in
    let same = typing_same m f ty _ _ _ c.deref-2.ensures.value ((rw c.in_ok-locals.ensures.ok_part at c.new.ensures) ∙ ap declared_types c.deref.ensures.value) c.result_of.ensures ∙ sym (typing_is m f ty found) in
    λ at e. subst (λ (g : Typing). IsRefusedAt g (tokens_of (code_of_body f.body)) at) same (c.check_body.ensures.refused at e)

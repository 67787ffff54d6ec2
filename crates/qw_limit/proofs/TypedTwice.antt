-- A statement that is typed where a local is of one type, and also where it is of another, all others being the same, sets it nowhere but to what it holds.
use Rattle.std.proofs.Common.{◌≡◌, ◌≢◌, ℕ, inl, inr, List, Some, slice_get, sym, ap, ◌∙◌, subst, ⊎_elim}
use Rattle.std.proofs.lemmas.Bool.{cases_eq}
use Rattle.std.proofs.lemmas.Option.{same_Some}
use Rattle.qw_module.specs.declared.instruction.ValType.{ValType}
use Rattle.qw_module.specs.Numbers.{type_of_load}
use Rattle.qw_module.specs.declared.instruction.ValType.TheVariants.{I32}
use Rattle.qw_low.specs.Syntax.{Expression, constant_of, local, unop, binop, divop, is_zero, relop, cvtop, advance, retreat, Statement, skip, seq, assign, load, store, conditional, while, request, raise, exit}
use Rattle.qw_low.specs.Typing.{HasType, IsTyped}
use Rattle.qw_limit.specs.Counting.{Spares}

module _ (z : ℕ) (types others : List ValType) (t u : ValType) (differ : t ≢ u) (one : slice_get types z ≡ Some t) (other : slice_get others z ≡ Some u) (same : (i : ℕ) → i ≢ z → slice_get others i ≡ slice_get types i) where
  -- one type in both
  both : (x y w : ValType) → x ≡ w → y ≡ w → x ≡ y
  both x y w is also = is ∙ sym also

  -- of the two types is the local alone
  is_local : (e : Expression) (x y : ValType) → x ≢ y → HasType types e x → HasType others e y → e ≡ local z
  is_local (constant_of c) x y apart is also = absurd (apart (is.1 ∙ sym also.1))
  is_local (local i) x y apart is also = ⊎_elim
      (λ here. ap local here)
      (λ elsewhere. absurd (apart (same_Some x y (sym is ∙ (sym (same i elsewhere) ∙ also)))))
      (cases_eq i z)
  is_local (unop w f e) x y apart is also = absurd (apart (is.1 ∙ sym also.1))
  is_local (binop w f l r) x y apart is also = absurd (apart (is.2 ∙ sym also.2))
  is_local (divop w f l r) x y apart is also = absurd (apart (is.2 ∙ sym also.2))
  is_local (is_zero w e) x y apart is also = absurd (apart (is.1 ∙ sym also.1))
  is_local (relop w f l r) x y apart is also = absurd (apart (is.2 ∙ sym also.2))
  is_local (cvtop c e) x y apart is also = absurd (apart (is.1 ∙ sym also.1))
  is_local (advance a n) x y apart is also = absurd (apart (is.2 ∙ sym also.2))
  is_local (retreat a n) x y apart is also = absurd (apart (is.2 ∙ sym also.2))

  -- a local of one type in both is another one
  is_other : (x : ℕ) (w : ValType) → slice_get types x ≡ Some w → slice_get others x ≡ Some w → x ≢ z
  is_other x w is also here =
      let first : t ≡ w = same_Some t w (sym one ∙ (ap (λ (i : ℕ). slice_get types i) (sym here) ∙ is)) in
      let second : u ≡ w = same_Some u w (sym other ∙ (ap (λ (i : ℕ). slice_get others i) (sym here) ∙ also)) in
      differ (first ∙ sym second)

  pub typed_spares : (a : Statement) → IsTyped types a → IsTyped others a → Spares z a
  typed_spares skip is also = tt
  typed_spares (seq a b) is also = (typed_spares a is.0 also.0, typed_spares b is.1 also.1)
  typed_spares (assign x e) is also = ⊎_elim
      (λ here.
      let first : is.0 ≡ t = same_Some is.0 t (sym is.1 ∙ (ap (λ (i : ℕ). slice_get types i) here ∙ one)) in
      let second : also.0 ≡ u = same_Some also.0 u (sym also.1 ∙ (ap (λ (i : ℕ). slice_get others i) here ∙ other)) in
      inr (is_local e t u differ (subst (λ (w : ValType). HasType types e w) first is.2) (subst (λ (w : ValType). HasType others e w) second also.2)))
      (λ elsewhere. inl elsewhere)
      (cases_eq x z)
  typed_spares (load x l offset a) is also = is_other x (type_of_load l) is.0 also.0
  typed_spares (store st offset a e) is also = tt
  typed_spares (conditional e a b) is also = (typed_spares a is.1 also.1, typed_spares b is.2 also.2)
  typed_spares (while e a) is also = typed_spares a is.1 also.1
  typed_spares (request e x) is also = is_other x I32 is.1 also.1
  typed_spares (raise code) is also = tt
  typed_spares exit is also = tt

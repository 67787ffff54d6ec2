-- Room for a row or an entry: what keeps free space, and the block that asks for a page where one doesn't fit.
use Rattle.std.proofs.Common.{◌≡◌, ℕ, zero, suc, ◌+◌, ◌-◌, ◌*◌, ◌/◌, ◌<◌, ◌≤◌, ◌⊎◌, ◌++◌, inl, inr, Bool, true, false, nat_lt, List, [], ◌∷◌, length, Some, slice_get, slice_set, length-set, refl, sym, ap, ◌∙◌, subst, ⊎_elim, arith, suc-mul}
use Rattle.std.proofs.lemmas.Bool.{cases_Bool, eq-eqb, ne_eqb, le-leb, ltb-true, ltb-false}
use Rattle.std.proofs.lemmas.List.{length-append}
use Rattle.std.proofs.Math.Nat.{lt_of_mul-lt-mul_right, lt-div-mul-add, add-mul}
use Rattle.qw_linear.specs.Memory.{page}
use Rattle.qw_map.proofs.TurnFacts.{slice_get-set_same, slice_get-set_other}
use Rattle.qw_module.specs.Numbers.{truth}
use Rattle.qw_module.specs.declared.instruction.ValType.TheVariants.{I32}
use Rattle.qw_module.specs.declared.instruction.Sign.TheVariants.{Unsigned}
use Rattle.qw_module.specs.declared.instruction.Relation.TheVariants.{Lt}
use Rattle.qw_low.specs.Syntax.{local, relop, skip, seq, assign, request}
use Rattle.qw_low.specs.State.{Own, Number, Address, LowState, with_pages}
use Rattle.qw_low.specs.Meaning.{value, meaning}
use Rattle.qw_low.specs.Promise.{Ends}
use Rattle.qw_low.proofs.Grants.{get-last}
use Rattle.qw_low.specs.Raising.{Kept}
use Rattle.qw_low.proofs.Promises.{assign_ends, conditional_ends}
use Rattle.qw_low.proofs.BlockSteps.{request_then}
use Rattle.qw_feed.specs.Frames.{pos, Keeps, From, Before}
use Rattle.qw_feed.specs.Room.{i32, room_block, HasRoom, Paid}
use Rattle.qw_feed.proofs.Frames.{Never, Keeps-same, Keeps-set}

abbrev pub IsRefusal : ℕ → Type 0
IsRefusal code = code ≡ 3

pub get-append : {A : Type 0} (xs ys : List A) (k : ℕ) → k < length xs → slice_get (xs ++ ys) k ≡ slice_get xs k
get-append [] ys k low = absurd (omega arith)
get-append (x ∷ xs) ys zero low = refl
get-append (x ∷ xs) ys (suc k) low = get-append xs ys k (omega arith)

-- free space is kept where its locals are
pub room-kept : (part offset n : ℕ) (s t : LowState) → 3 ≤ n → Kept n s t → HasRoom part offset s → HasRoom part offset t
room-kept part offset n s t high kept h = record {
  last = ap (λ (r : LowState). length r.own) kept.others ∙ h.last;
  pages = λ k low. ap (λ (r : LowState). slice_get r.own k) kept.others ∙ h.pages k low;
  within = h.within;
  free = kept.below 1 (omega arith) ∙ h.free;
  left = kept.below 2 (omega arith) ∙ h.left;
  zeros = λ a b from to. ap (λ (r : LowState). r.cells (Own part) a b) kept.others ∙ h.zeros a b from to;
  owned = omega (arith, h.owned, ap (λ (r : LowState). length r.own) kept.others, ap (λ (r : LowState). r.held) kept.others);
  limited = omega (arith, h.limited, ap (λ (r : LowState). r.held) kept.others);
  few = omega (arith, h.few, ap (λ (r : LowState). r.limit) kept.others);
}

-- and two pages more than those octets fill always pay for them
pub pays : (octets u : ℕ) → 0 < u → octets + 2 * u < (2 + octets / u + 1) * u
pays octets u some =
    let enough : octets < octets / u * u + u = lt-div-mul-add some in
    omega (arith, enough, add-mul (2 + octets / u) 1 u, add-mul 2 (octets / u) u)

-- there is room for so many octets, behind where it was before
pub record Roomy (n u budget front : ℕ) (s t : LowState) : Type 0 where
  pub part : ℕ
  pub offset : ℕ
  pub room : HasRoom part offset t
  pub fits : offset + n ≤ page
  pub behind : front ≤ pos part offset
  pub keeps : Keeps (From 3) (Before front) s t
  pub paid : Paid u budget offset t.held

-- The octets are paid for by a budget that is greater by as many as they leave of a page unused.
module _ (most fuel n u budget budget' : ℕ) (small : n ≤ page) (more : budget ≤ budget') (pays : n + u + budget ≤ page + budget') (s : LowState) (many : 3 ≤ length s.locals) (part offset : ℕ)
    (h : HasRoom part offset s) (paid : Paid u budget offset s.held) (enough : budget' + 2 * u < (most + 1) * u) where
  abbrev front : ℕ
  front = pos part offset

  abbrev Post : LowState → Type 0
  Post = Roomy n u budget' front s

  abbrev granted : LowState
  granted = record (with_pages s 1) { locals = slice_set s.locals 1 (Address (Own (length s.own)) 0) }

  abbrev filled : LowState
  filled = record granted { locals = slice_set granted.locals 2 (Number page) }

  many_now : length granted.locals ≡ length s.locals
  many_now = length-set s.locals 1 (Address (Own (length s.own)) 0)

  zeros_new : (a b : ℕ) → a + b ≤ page → granted.cells (Own (length s.own)) a b ≡ Some (Number 0)
  zeros_new a b within = rw (eq-eqb (length s.own) (length s.own) refl, le-leb (a + b) page within) refl

  kept_old : (k a b : ℕ) → pos k a + b ≤ front → granted.cells (Own k) a b ≡ s.cells (Own k) a b
  kept_old k a b below = rw (ne_eqb (length s.own) k (λ e. omega (arith, h.last, h.within, below, e))) refl

  pages_now : (k : ℕ) → k ≤ length s.own → slice_get granted.own k ≡ Some page
  pages_now k low = ⊎_elim
      (λ (last : k ≡ length s.own). subst (λ (j : ℕ). slice_get granted.own j ≡ Some page) (sym last) (get-last s.own page))
      (λ (less : k < length s.own). get-append s.own (page ∷ []) k less ∙ h.pages k (omega (arith, h.last)))
      (last_or_less k (length s.own) low)
    where
      last_or_less : (k n : ℕ) → k ≤ n → (k ≡ n) ⊎ (k < n)
      last_or_less k n le = ⊎_elim (λ b. inr (ltb-true k n b)) (λ b. inl (let ge : n ≤ k = ltb-false k n b in omega arith)) (cases_Bool (nat_lt k n))

  one_more : length s.own + 1 ≡ suc (length s.own)
  one_more = omega arith

  own_kept : (k size : ℕ) → slice_get s.own k ≡ Some size → slice_get granted.own k ≡ Some size
  own_kept k size is = get-append s.own (page ∷ []) k (there s.own k size is) ∙ is
    where
      there : (xs : List ℕ) (k x : ℕ) → slice_get xs k ≡ Some x → k < length xs
      there [] k x is = absurd cc
      there (y ∷ xs) zero x is = omega arith
      there (y ∷ xs) (suc k) x is = let low = there xs k x is in omega (arith, low)

  keeps_granted : Keeps (From 3) (Before front) s granted
  keeps_granted = record {
    many = many_now;
    locals = λ i old. slice_get-set_other s.locals 1 i (Address (Own (length s.own)) 0) (λ e. ⊎_elim (λ z. omega (arith, e, z)) (λ g. omega (arith, e, g)) old);
    own = own_kept;
    columns = refl;
    limit = refl;
    refused = refl;
    mapped = λ k a b. refl;
    cells = kept_old;
  }

  roomy : page - offset < n → s.held + 1 ≤ s.limit → Post filled
  roomy less within = record {
    part = length s.own;
    offset = 0;
    room = record {
      last = length-append s.own (page ∷ []) ∙ one_more;
      pages = pages_now;
      within = omega arith;
      free = slice_get-set_other granted.locals 2 1 (Number page) (λ e. omega (arith, e)) ∙ slice_get-set_same s.locals 1 (Address (Own (length s.own)) 0) (omega arith);
      left = slice_get-set_same granted.locals 2 (Number page) (omega (arith, many_now));
      zeros = λ a b from to. zeros_new a b to;
      owned = omega (arith, h.owned, length-append s.own (page ∷ []));
      limited = omega (arith, within, h.few);
      few = h.few;
    };
    fits = omega (arith, small);
    behind = omega (arith, h.last, h.within);
    keeps = Keeps-set (From 3) (Before front) s granted 2 (Number page) (λ i old e. ⊎_elim (λ z. omega (arith, e, z)) (λ g. omega (arith, e, g)) old) keeps_granted;
    paid = ⊎_elim (λ one. inr (rw one (omega (arith, more)))) (λ so. inr (omega (arith, suc-mul s.held u, so, less, pays, h.within))) paid;
  }

  allowed : page - offset < n → s.held + 1 ≤ most
  allowed less = ⊎_elim
      (λ one. let bound : 2 < most + 1 = lt_of_mul-lt-mul_right u (omega (arith, enough, more)) in omega (arith, one))
      (λ so. let bound : s.held + 1 < most + 1 = lt_of_mul-lt-mul_right u (omega (arith, suc-mul s.held u, so, less, enough, pays, h.within)) in omega arith)
      paid

  asks : page - offset < n → Ends 12 Post Never IsRefusal (meaning most fuel (seq (request (i32 1) 1) (assign 2 (i32 page))) s)
  asks less = request_then Post Never IsRefusal most fuel s 2 (assign 2 (i32 page)) (i32 1) 1 1 refl (omega arith) (omega arith) (allowed less) refl
      (λ within. assign_ends Post Never IsRefusal most fuel 2 (i32 page) (Number page) granted refl (omega (arith, many_now)) (roomy less within))

  test_is : (b : Bool) → nat_lt (page - offset) n ≡ b → value s (relop I32 (Lt Unsigned) (local 2) (i32 n)) ≡ Some (Number (truth b))
  test_is b is = rw (h.left, is) refl

  -- so many octets are free, or the request for a page was refused
  pub room_ends : Ends 16 Post Never IsRefusal (meaning most fuel (room_block n) s)
  room_ends = ⊎_elim
      (λ less. conditional_ends Post Never IsRefusal most fuel 12 (relop I32 (Lt Unsigned) (local 2) (i32 n)) (seq (request (i32 1) 1) (assign 2 (i32 page))) skip s
      (inl (inl (0, test_is true less), asks (ltb-true (page - offset) n less))))
      (λ fits. conditional_ends Post Never IsRefusal most fuel 12 (relop I32 (Lt Unsigned) (local 2) (i32 n)) (seq (request (i32 1) 1) (assign 2 (i32 page))) skip s
      (inr (
        test_is false fits,
        (
          omega arith,
          record {
            part = part;
            offset = offset;
            room = h;
            fits = let le : n ≤ page - offset = ltb-false (page - offset) n fits in omega (arith, h.within, small);
            behind = omega arith;
            keeps = Keeps-same (From 3) (Before front) s;
            paid = ⊎_elim inl (λ so. inr (omega (arith, so, more))) paid;
          },
        ),
      )))
      (cases_Bool (nat_lt (page - offset) n))

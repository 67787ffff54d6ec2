-- One more text, number, date or column in a loop: its binding, and the types of its locals.
use Rattle.std.proofs.Common.{◌≡◌, ℕ, zero, suc, ◌+◌, ◌<◌, List, [], ◌∷◌, ◌++◌, length, map, take, drop, get_or, refl, sym, ap, ap₂, ◌∙◌, append_assoc, arith, drop-cons}
use Rattle.std.proofs.lemmas.List.{map_more}
use Rattle.qw_module.specs.declared.instruction.ValType.{ValType}
use Rattle.qw_module.specs.declared.instruction.ValType.TheVariants.{I32, I64}
use Rattle.qw_expr.specs.declared.known.Binding.{Binding}
use Rattle.qw_expr.specs.declared.operand.Operand.{Operand}
use Rattle.qw_expr.specs.Computes.{Known}
use Rattle.qw_read.specs.declared.reader.Reader.{Reader}
use Rattle.qw_scalar.specs.Expression.{Expression, text}
use Rattle.qw_read.specs.Constants.{constant_operand, known_constant, literal_of}
use Rattle.qw_read.specs.declared.constant.Constant.{Constant}
use Rattle.qw_read.specs.Reading.{known_of, operand_of}
use Rattle.qw_read.specs.declared.literal.Literal.{Literal}
use Rattle.qw_read.specs.Texts.{known_texts, text_operand}
use Rattle.qw_compile.specs.QueryLocals.{text_types, word_types}
use Rattle.qw_expr.specs.declared.known.Leaf.TheVariants as leaf
use Rattle.qw_expr.specs.Bindings as bindings

pub known_end : (bs : List Binding) (b : Binding) → bindings.known_of (bs ++ b ∷ []) ≡ bindings.known_of bs ++ record { expression = bindings.named b.leaf; operand = b.operand } ∷ []
known_end [] b = refl
known_end (c ∷ bs) b = ap (λ (ks : List Known). record { expression = bindings.named c.leaf; operand = c.operand } ∷ ks) (known_end bs b)

pub next_binding : (rs : List Reader) (i : ℕ) (r : Reader) (o : Operand) (made new : List Binding) (old : List Known) → i < length rs → o ≡ operand_of (get_or rs i r) → bindings.known_of made ≡ old ++ map known_of (take i rs) →
    new ≡ made ++ record { leaf = leaf.Column (get_or rs i r).column (get_or rs i r).ty; operand = o } ∷ [] → bindings.known_of new ≡ old ++ map known_of (take (i + 1) rs)
next_binding rs i r o made new old less same before added =
    ap bindings.known_of added
    ∙ (known_end made (record { leaf = leaf.Column (get_or rs i r).column (get_or rs i r).ty; operand = o })
    ∙ (ap₂ (λ (ks : List Known) (p : Operand). ks ++ record { expression = bindings.named (leaf.Column (get_or rs i r).column (get_or rs i r).ty); operand = p } ∷ []) before same
    ∙ (append_assoc old (map known_of (take i rs)) (known_of (get_or rs i r) ∷ [])
    ∙ ap (λ (ks : List Known). old ++ ks) (sym (map_more known_of rs i r less)))))

pub next_constant : (cs : List Constant) (i : ℕ) (c : Constant) (b : Binding) (made new : List Binding) (old : List Known) → i < length cs → bindings.named b.leaf ≡ literal_of (get_or cs i c).word → b.operand ≡ constant_operand (get_or cs i c) →
    bindings.known_of made ≡ old ++ map known_constant (take i cs) → new ≡ made ++ b ∷ [] → bindings.known_of new ≡ old ++ map known_constant (take (i + 1) cs)
next_constant cs i c b made new old less leaf_is operand_is before added =
    ap bindings.known_of added
    ∙ (known_end made b
    ∙ (ap₂ (λ (ks : List Known) (k : Known). ks ++ k ∷ []) before (ap₂ (λ (e : Expression) (o : Operand). record { expression = e; operand = o }) leaf_is operand_is)
    ∙ (append_assoc old (map known_constant (take i cs)) (known_constant (get_or cs i c) ∷ [])
    ∙ ap (λ (ks : List Known). old ++ ks) (sym (map_more known_constant cs i c less)))))

-- ---- bindings
pub next_text : (ls : List Literal) (ts : List (List ℕ)) (i : ℕ) (l : Literal) (x t : List ℕ) (o : Operand) (made new : List Binding) (old : List Known) → length ls ≡ length ts → i < length ts → x ≡ get_or ts i x → t ≡ x → o ≡ text_operand (get_or ls i l) →
    bindings.known_of made ++ known_texts (drop i ls) (drop i ts) ≡ old → new ≡ made ++ record { leaf = leaf.Text t; operand = o } ∷ [] → bindings.known_of new ++ known_texts (drop (i + 1) ls) (drop (i + 1) ts) ≡ old
next_text ls ts i l x t o made new old many less there copied operand before added =
    let same : t ≡ get_or ts i x = copied ∙ there in
    let one : i + 1 ≡ suc i = omega arith in
    let first : drop i ls ≡ get_or ls i l ∷ drop (i + 1) ls = drop-cons ls i l (omega (arith, many, less)) ∙ ap (λ (k : ℕ). get_or ls i l ∷ drop k ls) (sym one) in
    let second : drop i ts ≡ t ∷ drop (i + 1) ts = drop-cons ts i x less ∙ ap₂ (λ (y : List ℕ) (k : ℕ). y ∷ drop k ts) (sym same) (sym one) in
    ap (λ (b : List Binding). bindings.known_of b ++ known_texts (drop (i + 1) ls) (drop (i + 1) ts)) added
    ∙ (ap (λ (k : List Known). k ++ known_texts (drop (i + 1) ls) (drop (i + 1) ts)) (known_end made (record { leaf = leaf.Text t; operand = o }))
    ∙ (append_assoc (bindings.known_of made) (record { expression = text t; operand = o } ∷ []) (known_texts (drop (i + 1) ls) (drop (i + 1) ts))
    ∙ (ap (λ (p : Operand). bindings.known_of made ++ record { expression = text t; operand = p } ∷ known_texts (drop (i + 1) ls) (drop (i + 1) ts)) operand
    ∙ (ap₂ (λ (a : List Literal) (b : List (List ℕ)). bindings.known_of made ++ known_texts a b) (sym first) (sym second) ∙ before))))

-- ---- locals
text_behind : (n : ℕ) (rest : List ValType) → text_types n (I32 ∷ I32 ∷ rest) ≡ text_types (suc n) rest
text_behind zero rest = refl
text_behind (suc n) rest = ap (λ (l : List ValType). I32 ∷ I32 ∷ l) (text_behind n rest)

pub next_types : (n : ℕ) (locals new old rest : List ValType) → new ≡ locals ++ I32 ∷ I32 ∷ [] → ((more : List ValType) → locals ++ more ≡ old ++ text_types n more) → new ++ rest ≡ old ++ text_types (n + 1) rest
next_types n locals new old rest added before =
    let one : suc n ≡ n + 1 = omega arith in
    ap (λ (l : List ValType). l ++ rest) added
    ∙ (append_assoc locals (I32 ∷ I32 ∷ []) rest
    ∙ (before (I32 ∷ I32 ∷ rest)
    ∙ ap (λ (l : List ValType). old ++ l) (text_behind n rest ∙ ap (λ (k : ℕ). text_types k rest) one)))

word_behind : (n : ℕ) (rest : List ValType) → word_types n (I64 ∷ rest) ≡ word_types (suc n) rest
word_behind zero rest = refl
word_behind (suc n) rest = ap (λ (l : List ValType). I64 ∷ l) (word_behind n rest)

pub next_words : (n : ℕ) (locals new old rest : List ValType) → new ≡ locals ++ I64 ∷ [] → ((more : List ValType) → locals ++ more ≡ old ++ word_types n more) → new ++ rest ≡ old ++ word_types (n + 1) rest
next_words n locals new old rest added before =
    let one : suc n ≡ n + 1 = omega arith in
    ap (λ (l : List ValType). l ++ rest) added
    ∙ (append_assoc locals (I64 ∷ []) rest
    ∙ (before (I64 ∷ rest)
    ∙ ap (λ (l : List ValType). old ++ l) (word_behind n rest ∙ ap (λ (k : ℕ). word_types k rest) one)))

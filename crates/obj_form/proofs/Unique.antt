-- JSON stands for one object.
use Rattle.std.proofs.Common.{◌≡◌, ℕ, pos, negsuc, List, [], ◌∷◌, refl, sym, ap, subst, ◌∙◌, codes}
use Rattle.serde_json.specs.Data.{Data, number, string, unsigned, array, null, Items, no_items, item, object, Members, no_members, member}
use Rattle.f77_tree.specs.declared.unit.Value.{Value}
use Rattle.f77_tree.specs.declared.unit.Value.TheVariants.{Integer, Logical}
use Rattle.obj_form.specs.Grammar.{IsArrayOf, IsBlock, IsCode, IsNamed, IsObject, IsReloc, IsRun, IsTarget, IsValue, IsWord, Parts}
use Rattle.obj_form.specs.declared.object.InitialRun.{InitialRun}
use Rattle.obj_form.specs.declared.object.Object.{Object}
use Rattle.obj_form.specs.declared.object.Reloc.{Reloc}
use Rattle.obj_form.specs.declared.object.Target.{Target}
use Rattle.obj_form.specs.declared.object.Target.TheVariants.{Call, Own, Block}
use Rattle.obj_form.proofs.Arrays.{items_in}
use Rattle.obj_form.proofs.Words.{code_of_text}

abbrev text_in : Data → List ℕ
text_in (string s) = s
text_in _ = []

pub one_word : (d : Data) (a b : ℕ) → IsWord d a → IsWord d b → a ≡ b
one_word d a b h g = let e : number (unsigned a) ≡ number (unsigned b) = sym h.0 ∙ g.0 in cc e

pub one_value : (d : Data) (a b : Value) → IsValue d a → IsValue d b → a ≡ b
one_value d (Integer (pos a)) (Integer (pos b)) h g = let e = sym h.0 ∙ g.0 in cc e
one_value d (Integer (pos a)) (Integer (negsuc b)) h g = let e = sym h.0 ∙ g.0 in cc e
one_value d (Integer (negsuc a)) (Integer (pos b)) h g = let e = sym h.0 ∙ g.0 in cc e
one_value d (Integer (negsuc a)) (Integer (negsuc b)) h g = let e = sym h.0 ∙ g.0 in cc e
one_value d (Integer a) (Logical b) h g = let e = sym h.0 ∙ g in cc e
one_value d (Logical a) (Integer b) h g = let e = sym h ∙ g.0 in cc e
one_value d (Logical a) (Logical b) h g = let e = sym h ∙ g in cc e

one_name : (d : Data) (a b : List ℕ) → IsNamed d a → IsNamed d b → a ≡ b
one_name d a b h g = ap text_in (sym h.0 ∙ g.0)

one_block : (d : Data) (a b : List ℕ) → IsBlock d a → IsBlock d b → a ≡ b
one_block d a b h g = ap text_in (sym h.0 ∙ g.0)

pub one_code : (d : Data) (a b : List ℕ) → IsCode d a → IsCode d b → a ≡ b
one_code d a b h g = code_of_text a b h.1 g.1 (ap text_in (sym h.0 ∙ g.0))

one_parts : {A : Type 0} (Is : Data → A → Type 0) → ((d : Data) (a b : A) → Is d a → Is d b → a ≡ b)
    → (ds : Items) (xs ys : List A) → Parts Is ds xs → Parts Is ds ys → xs ≡ ys
one_parts Is one no_items [] [] h g = refl
one_parts Is one no_items [] (y ∷ ys) h g = absurd g
one_parts Is one no_items (x ∷ xs) ys h g = absurd h
one_parts Is one (item d ds) [] ys h g = absurd h
one_parts Is one (item d ds) (x ∷ xs) [] h g = absurd g
one_parts Is one (item d ds) (x ∷ xs) (y ∷ ys) h g =
    ap (λ z. z ∷ xs) (one d x y h.0 g.0) ∙ ap (λ zs. y ∷ zs) (one_parts Is one ds xs ys h.1 g.1)

pub one_array : {A : Type 0} (Is : Data → A → Type 0) → ((d : Data) (a b : A) → Is d a → Is d b → a ≡ b)
    → (d : Data) (xs ys : List A) → IsArrayOf Is d xs → IsArrayOf Is d ys → xs ≡ ys
one_array Is one d xs ys h g =
    let same : g.0 ≡ h.0 = ap items_in (sym g.1 ∙ h.1) in
    one_parts Is one h.0 xs ys h.2 (subst (λ ds. Parts Is ds ys) same g.2)

-- the parts of an array, by their places
abbrev pub first_in : Data → Data
first_in (array (item a rest)) = a
first_in d = d

abbrev pub rest_in : Data → Data
rest_in (array (item a rest)) = array rest
rest_in d = d

pub one_run : (d : Data) (a b : InitialRun) → IsRun d a → IsRun d b → a ≡ b
one_run d a b h g =
    let same = sym g.3 ∙ h.3 in
    let from : a.from ≡ b.from = one_word h.0 a.from b.from h.4 (subst (λ v. IsWord v b.from) (ap first_in same) g.4) in
    let count : a.count ≡ b.count = one_word h.1 a.count b.count h.5 (subst (λ v. IsWord v b.count) (ap (λ v. first_in (rest_in v)) same) g.5) in
    let value : a.value ≡ b.value = one_value h.2 a.value b.value h.6 (subst (λ v. IsValue v b.value) (ap (λ v. first_in (rest_in (rest_in v))) same) g.6) in
    λ i. record { from = from i; count = count i; value = value i }

one_target : (d : Data) (a b : Target) → IsTarget d a → IsTarget d b → a ≡ b
one_target d (Call m) (Call n) h g =
    ap Call (one_name h.0 m n h.2 (subst (λ v. IsNamed v n) (ap (λ v. first_in (rest_in v)) (sym g.1 ∙ h.1)) g.2))
one_target d (Own j) (Own k) h g =
    ap Own (one_word h.0 j k h.2 (subst (λ v. IsWord v k) (ap (λ v. first_in (rest_in v)) (sym g.1 ∙ h.1)) g.2))
one_target d (Block m j) (Block n k) h g =
    let same = sym g.2 ∙ h.2 in
    let name : m ≡ n = one_block h.0 m n h.3 (subst (λ v. IsBlock v n) (ap (λ v. first_in (rest_in v)) same) g.3) in
    let at : j ≡ k = one_word h.1 j k h.4 (subst (λ v. IsWord v k) (ap (λ v. first_in (rest_in (rest_in v))) same) g.4) in
    λ i. Block (name i) (at i)
one_target d (Call m) (Own k) h g = let e : codes "call" ≡ codes "own" = ap (λ v. text_in (first_in v)) (sym h.1 ∙ g.1) in cc e
one_target d (Own j) (Call n) h g = let e : codes "own" ≡ codes "call" = ap (λ v. text_in (first_in v)) (sym h.1 ∙ g.1) in cc e
one_target d (Call m) (Block n k) h g = let e : codes "call" ≡ codes "block" = ap (λ v. text_in (first_in v)) (sym h.1 ∙ g.2) in cc e
one_target d (Block m j) (Call n) h g = let e : codes "block" ≡ codes "call" = ap (λ v. text_in (first_in v)) (sym h.2 ∙ g.1) in cc e
one_target d (Own j) (Block n k) h g = let e : codes "own" ≡ codes "block" = ap (λ v. text_in (first_in v)) (sym h.1 ∙ g.2) in cc e
one_target d (Block m j) (Own k) h g = let e : codes "block" ≡ codes "own" = ap (λ v. text_in (first_in v)) (sym h.2 ∙ g.1) in cc e

pub one_reloc : (d : Data) (a b : Reloc) → IsReloc d a → IsReloc d b → a ≡ b
one_reloc d a b h g =
    let same = sym g.2 ∙ h.2 in
    let word : a.word ≡ b.word = one_word h.0 a.word b.word h.3 (subst (λ v. IsWord v b.word) (ap first_in same) g.3) in
    let target : a.target ≡ b.target = one_target h.1 a.target b.target h.4 (subst (λ v. IsTarget v b.target) (ap (λ v. first_in (rest_in v)) same) g.4) in
    λ i. record { word = word i; target = target i }

abbrev object_members : Data → Members
object_members (object ms) = ms
object_members _ = no_members

abbrev first_member : Members → Data
first_member (member k d ms) = d
first_member no_members = null

abbrev other_members : Members → Members
other_members (member k d ms) = ms
other_members no_members = no_members

pub one_object : (d : Data) (a b : Object) → IsObject d a → IsObject d b → a ≡ b
one_object d a b h g =
    let same = ap object_members (sym g.4 ∙ h.4) in
    let at1 : g.0 ≡ h.0 = ap first_member same in
    let at2 : g.1 ≡ h.1 = ap (λ ms. first_member (other_members ms)) same in
    let at3 : g.2 ≡ h.2 = ap (λ ms. first_member (other_members (other_members ms))) same in
    let at4 : g.3 ≡ h.3 = ap (λ ms. first_member (other_members (other_members (other_members ms)))) same in
    let code : a.code ≡ b.code = one_code h.0 a.code b.code h.5 (subst (λ v. IsCode v b.code) at1 g.5) in
    let initial : a.initial ≡ b.initial = one_array IsRun one_run h.1 a.initial b.initial h.6.0 (subst (λ v. IsArrayOf IsRun v b.initial) at2 g.6.0) in
    let relocs : a.relocs ≡ b.relocs = one_array IsReloc one_reloc h.2 a.relocs b.relocs h.7.0 (subst (λ v. IsArrayOf IsReloc v b.relocs) at3 g.7.0) in
    let size : a.size ≡ b.size = one_word h.3 a.size b.size h.8 (subst (λ v. IsWord v b.size) at4 g.8) in
    λ i. record { code = code i; relocs = relocs i; size = size i; initial = initial i }

-- What statements do by their meaning, beside what their code does.
use Rattle.std.proofs.Common.{◌≡◌, ℕ, suc, ◌+◌, ◌-◌, ◌*◌, ◌%◌, ◌^◌, ◌<◌, pos, ℤ, List, [], ◌∷◌, ◌++◌, length, Option, Some, None, refl, sym, ap, ◌∙◌, subst, arith}
use Rattle.std.specs.Prelude.{◌+ℤ◌, ◌-ℤ◌}
use Rattle.std.specs.List.{All}
use Rattle.std.specs.Int.{w64, int_wrap}
use Rattle.std.specs.Fmt.{signed_decimal}
use Rattle.std.proofs.lemmas.Int.{wrapping_add_onto, wrapping_sub_onto, of_z-to_z, to_z_pos}
use Rattle.std.proofs.Math.Facts.{sfits_to_z, Fits-of_lt}
use Rattle.run_model.specs.Storage.{Value as Stored, Integer as Number, Logical, Local, Cells}
use Rattle.run_model.specs.Acts.{World, Undefined, Outcome, Fine, Stop, then_do, Act, Done, and_then, play, with_cell, no_calls}
use Rattle.run_model.proofs.Order.{play-and_then}
use Rattle.thin_form.specs.declared.statement.Term.{Term}
use Rattle.thin_form.specs.declared.statement.Term.TheVariants.{Variable, Integer}
use Rattle.thin_form.specs.declared.statement.Sign.{Sign}
use Rattle.thin_form.specs.declared.statement.Sign.TheVariants.{Plus, Minus}
use Rattle.thin_form.specs.declared.statement.Addend.{Addend}
use Rattle.thin_form.specs.declared.statement.Item.{Item}
use Rattle.thin_form.specs.declared.statement.Item.TheVariants.{Value, Text}
use Rattle.rv_machine.specs.Memory.{Memory, read}
use Rattle.rv_machine.specs.Machine.{bits_of, number_of}
use Rattle.thin_code.specs.Layout.{main, offset_of, location_of}
use Rattle.thin_code.specs.Meaning.{as_integer, value, joined, sum_from, printed, all_printed, record_of}
use Rattle.thin_code.specs.Code.{Frame, address_of}
use Rattle.thin_code.proofs.Effects.{word_of, joined_words, sum_of, item_text, items_text, record_text, IsSoundTerm, IsSoundItem}

-- a word of 64 bits and the integer that it stands for
pub record Means (v : ℕ) (x : ℤ) : Type 0 where
  pub small : v < 2 ^ 64
  pub is : number_of v ≡ x

-- the defined cells of the variables stand in the memory
pub record Holds (f : Frame) (cells : Cells) (m : Memory) : Type 0 where
  pub holds : (o : ℕ) (x : ℤ) → o < length f.names → cells (record { area = Local main; offset = o }) ≡ Some (Number x) → Means (read 8 m (f.data_at + 8 * o)) x

-- ---- arithmetic

means_joined : (sign : Sign) (v w : ℕ) (x y : ℤ) → Means v x → Means w y → Means (joined_words sign v w) (joined sign x y)
means_joined Plus v w x y a b =
    let e = wrapping_add_onto w64 v (number_of w) a.small (sfits_to_z {w = w64} {n = w} (Fits-of_lt {w = w64} {n = w} b.small)) in
    let g : bits_of (number_of w) ≡ w = of_z-to_z w64 w b.small in
    record {
      small = omega arith;
      is = ap (λ u. number_of ((v + u) % 2 ^ 64)) (sym g) ∙ e ∙ (λ i. int_wrap w64 (a.is i +ℤ b.is i));
    }
means_joined Minus v w x y a b =
    let e = wrapping_sub_onto w64 v (number_of w) a.small (sfits_to_z {w = w64} {n = w} (Fits-of_lt {w = w64} {n = w} b.small)) in
    let g : bits_of (number_of w) ≡ w = of_z-to_z w64 w b.small in
    record {
      small = omega arith;
      is = ap (λ u. number_of ((v + (2 ^ 64 - u)) % 2 ^ 64)) (sym g) ∙ e ∙ (λ i. int_wrap w64 (a.is i -ℤ b.is i));
    }

-- ---- values

-- it gives the integer of this word, or is undefined, and leaves the world
pub data Fares (w : World) (v : ℕ) (o : Outcome ℤ) : Type 0 where
  gives : (x : ℤ) → Means v x → o ≡ Fine x w → Fares w v o
  fails : o ≡ Stop (Undefined 1) w → Fares w v o

pub value_fares : (f : Frame) (w : World) (m : Memory) (t : Term) → Holds f w.cells m → IsSoundTerm f t → Fares w (word_of f m t) (play no_calls (value f.names t) w)
value_fares f w m (Variable name) h i = go (w.cells (location_of f.names name)) refl
  where
    go : (o : Option Stored) → w.cells (location_of f.names name) ≡ o → Fares w (read 8 m (address_of f name)) (with_cell o w (λ v. play no_calls (as_integer v) w))
    go None e = fails refl
    go (Some (Logical b)) e = fails refl
    go (Some (Number x)) e = gives x (h.holds (offset_of f.names name) x i e) refl
value_fares f w m (Integer z) h i =
    let e : z ≡ pos i.0 = i.1.1 in
    let n : number_of i.0 ≡ pos i.0 = to_z_pos w64 i.0 i.1.0 in
    gives z (subst (λ z. Means (bits_of z) z) (sym e) (record { small = omega (arith, i.1.0); is = n })) refl

pub sum_fares : (f : Frame) (w : World) (m : Memory) (v : ℕ) (x : ℤ) (more : List Addend) → Holds f w.cells m → Means v x → All (λ a. IsSoundTerm f a.term) more → Fares w (sum_of f m v more) (play no_calls (sum_from f.names x more) w)
sum_fares f w m v x [] h a i = gives x a refl
sum_fares f w m v x (t ∷ more) h a i =
    let k : ℤ → Act ℤ = λ y. sum_from f.names (joined t.sign x y) more in
    subst (Fares w (sum_of f m (joined_words t.sign v (word_of f m t.term)) more)) (sym (play-and_then no_calls (value f.names t.term) k w))
    (go (play no_calls (value f.names t.term) w) (value_fares f w m t.term h (i 0 t (omega arith)))
    (λ y b. sum_fares f w m (joined_words t.sign v (word_of f m t.term)) (joined t.sign x y) more h (means_joined t.sign v (word_of f m t.term) x y a b) (λ k d l. i (suc k) d (omega arith))))
  where
    go : (o : Outcome ℤ) → Fares w (word_of f m t.term) o → ((y : ℤ) → Means (word_of f m t.term) y → Fares w (sum_of f m (joined_words t.sign v (word_of f m t.term)) more) (play no_calls (sum_from f.names (joined t.sign x y) more) w))
        → Fares w (sum_of f m (joined_words t.sign v (word_of f m t.term)) more) (then_do o (λ y u. play no_calls (sum_from f.names (joined t.sign x y) more) u))
    go o (gives y b e) ih = subst (λ o. Fares w (sum_of f m (joined_words t.sign v (word_of f m t.term)) more) (then_do o (λ y u. play no_calls (sum_from f.names (joined t.sign x y) more) u))) (sym e)
        (ih y b)
    go o (fails e) ih = fails (ap (λ o. then_do o (λ y u. play no_calls (sum_from f.names (joined t.sign x y) more) u)) e)

-- ---- texts

-- it gives this text, or is undefined, and leaves the world
pub data Shows (w : World) (text : List ℕ) (o : Outcome (List ℕ)) : Type 0 where
  shows : o ≡ Fine text w → Shows w text o
  hides : o ≡ Stop (Undefined 1) w → Shows w text o

item_shows : (f : Frame) (w : World) (m : Memory) (i : Item) → Holds f w.cells m → IsSoundItem f i → Shows w (item_text f m i) (play no_calls (printed f.names i) w)
item_shows f w m (Text bytes) h i = shows refl
item_shows f w m (Value t) h i =
    let k : ℤ → Act (List ℕ) = λ x. Done (32 ∷ signed_decimal x) in
    subst (Shows w (32 ∷ signed_decimal (number_of (word_of f m t)))) (sym (play-and_then no_calls (value f.names t) k w)) (go (play no_calls (value f.names t) w) (value_fares f w m t h i))
  where
    go : (o : Outcome ℤ) → Fares w (word_of f m t) o → Shows w (32 ∷ signed_decimal (number_of (word_of f m t))) (then_do o (λ x u. play no_calls (let k : ℤ → Act (List ℕ) = λ x. Done (32 ∷ signed_decimal x) in k x) u))
    go o (gives x a e) = shows (ap (λ o. then_do o (λ x u. Fine (32 ∷ signed_decimal x) u)) e ∙ ap (λ x. Fine (32 ∷ signed_decimal x) w) (sym a.is))
    go o (fails e) = hides (ap (λ o. then_do o (λ x u. Fine (32 ∷ signed_decimal x) u)) e)

items_show : (f : Frame) (w : World) (m : Memory) (items : List Item) → Holds f w.cells m → All (IsSoundItem f) items → Shows w (items_text f m items) (play no_calls (all_printed f.names items) w)
items_show f w m [] h i = shows refl
items_show f w m (x ∷ items) h i =
    let k : List ℕ → Act (List ℕ) = λ first. and_then (all_printed f.names items) (λ others. Done (first ++ others)) in
    subst (Shows w (item_text f m x ++ items_text f m items)) (sym (play-and_then no_calls (printed f.names x) k w)) (go (play no_calls (printed f.names x) w) (item_shows f w m x h (i 0 x (omega arith))) (items_show f w m items h (λ k d l. i (suc k) d (omega arith))))
  where
    rest : (first : List ℕ) → (o : Outcome (List ℕ)) → Shows w (items_text f m items) o → Shows w (first ++ items_text f m items) (then_do o (λ others u. Fine (first ++ others) u))
    rest first o (shows e) = shows (ap (λ o. then_do o (λ others u. Fine (first ++ others) u)) e)
    rest first o (hides e) = hides (ap (λ o. then_do o (λ others u. Fine (first ++ others) u)) e)

    go : (o : Outcome (List ℕ)) → Shows w (item_text f m x) o → Shows w (items_text f m items) (play no_calls (all_printed f.names items) w) → Shows w (item_text f m x ++ items_text f m items) (then_do o (λ first u. play no_calls (and_then (all_printed f.names items) (λ others. Done (first ++ others))) u))
    go o (shows e) ih =
        subst (λ o. Shows w (item_text f m x ++ items_text f m items) (then_do o (λ first u. play no_calls (and_then (all_printed f.names items) (λ others. Done (first ++ others))) u))) (sym e)
        (subst (Shows w (item_text f m x ++ items_text f m items)) (sym (play-and_then no_calls (all_printed f.names items) (λ others. Done (item_text f m x ++ others)) w))
        (rest (item_text f m x) (play no_calls (all_printed f.names items) w) ih))
    go o (hides e) ih = hides (ap (λ o. then_do o (λ first u. play no_calls (and_then (all_printed f.names items) (λ others. Done (first ++ others))) u)) e)

pub record_shows : (f : Frame) (w : World) (m : Memory) (items : List Item) → Holds f w.cells m → All (IsSoundItem f) items → Shows w (record_text f m items) (play no_calls (record_of f.names items) w)
record_shows f w m [] h i = shows refl
record_shows f w m (x ∷ items) h i = items_show f w m (x ∷ items) h i

-- The code of PRINT.
use Rattle.std.proofs.Common.{ℕ, suc, ◌+◌, ◌*◌, ◌<◌, List, [], ◌∷◌, ◌++◌, length, sym, ap, subst, arith, lit<, length-append}
use Rattle.std.specs.Prelude.{flat_map}
use Rattle.std.specs.List.{All}
use Rattle.std.specs.Fmt.{signed_decimal}
use Rattle.rv_isa.specs.declared.inst.Inst.{Inst}
use Rattle.thin_form.specs.declared.statement.Term.{Term}
use Rattle.thin_form.specs.declared.statement.Item.{Item}
use Rattle.thin_form.specs.declared.statement.Item.TheVariants.{Value, Text}
use Rattle.rv_machine.specs.Machine.{State, number_of}
use Rattle.rv_code.specs.Pieces.{byte_code, show_code}
use Rattle.thin_code.specs.Code.{Frame, term_code, item_code, items_code, record_code}
use Rattle.thin_code.proofs.Acting.{Ready, ready_split, Acts, acts_byte, acts_show, acts_none, acts_then}
use Rattle.thin_code.proofs.Sums.{puts_term}
use Rattle.thin_code.proofs.Effects.{word_of, item_text, items_text, record_text, IsSoundTerm, IsSoundItem}

acts_bytes : (f : Frame) (rest : List Inst) (p : ℕ) (s : State) (bs : List ℕ) → All (λ b. b < 256) bs → Ready f (flat_map byte_code bs ++ rest) p s → Acts f rest p (length (flat_map byte_code bs)) s s.mem bs
acts_bytes f rest p s [] h r = acts_none f rest p s r
acts_bytes f rest p s (b ∷ bs) h r =
    let B = flat_map byte_code bs in
    let one = acts_byte f (B ++ rest) p s b (h 0 b (omega arith)) (ready_split f (byte_code b) B rest p s r) in
    let two = acts_bytes f rest (p + 4 * 3) one.then bs (λ k d l. h (suc k) d (omega arith)) one.ready in
    let two' = subst (λ m. Acts f rest (p + 4 * 3) (length B) one.then m bs) one.mem two in
    acts_then f rest (B ++ rest) p 3 (length B) (length (byte_code b ++ B)) s s.mem s.mem (b ∷ []) bs (sym (length-append (byte_code b) B)) one two'

-- a term that is printed
acts_term : (f : Frame) (rest : List Inst) (p : ℕ) (s : State) (t : Term) → IsSoundTerm f t → Ready f ((term_code f 10 p t ++ show_code) ++ rest) p s → Acts f rest p (length (term_code f 10 p t ++ show_code)) s s.mem (signed_decimal (number_of (word_of f s.mem t)))
acts_term f rest p s t i r =
    let T = term_code f 10 p t in
    let x = word_of f s.mem t in
    let one = puts_term f (show_code ++ rest) p s 10 t (lit< tt) (lit< tt) i (ready_split f T show_code rest p s r) in
    let one' : Acts f (show_code ++ rest) p (length T) s s.mem [] = record { then = one.then; goes = one.goes; ready = one.ready; mem = one.mem } in
    let two = acts_show f rest (p + 4 * length T) one.then x (ap (λ r. r 10) one.regs) one.ready in
    let two' = subst (λ m. Acts f rest (p + 4 * length T) 2 one.then m (signed_decimal (number_of x))) one.mem two in
    acts_then f rest (show_code ++ rest) p (length T) 2 (length (T ++ show_code)) s s.mem s.mem [] (signed_decimal (number_of x)) (sym (length-append T show_code)) one' two'

acts_item : (f : Frame) (rest : List Inst) (p : ℕ) (s : State) (i : Item) → IsSoundItem f i → Ready f (item_code f p i ++ rest) p s → Acts f rest p (length (item_code f p i)) s s.mem (item_text f s.mem i)
acts_item f rest p s (Text bytes) h r =
    let B = flat_map byte_code bytes in
    let one = acts_byte f (B ++ rest) p s 32 (lit< tt) (ready_split f (byte_code 32) B rest p s r) in
    let two = acts_bytes f rest (p + 4 * 3) one.then bytes h one.ready in
    let two' = subst (λ m. Acts f rest (p + 4 * 3) (length B) one.then m bytes) one.mem two in
    acts_then f rest (B ++ rest) p 3 (length B) (length (byte_code 32 ++ B)) s s.mem s.mem (32 ∷ []) bytes (sym (length-append (byte_code 32) B)) one two'
acts_item f rest p s (Value term) h r =
    let B = term_code f 10 (p + 12) term ++ show_code in
    let one = acts_byte f (B ++ rest) p s 32 (lit< tt) (ready_split f (byte_code 32) B rest p s r) in
    let two = acts_term f rest (p + 4 * 3) one.then term h one.ready in
    let two' = subst (λ m. Acts f rest (p + 4 * 3) (length B) one.then m (signed_decimal (number_of (word_of f m term)))) one.mem two in
    acts_then f rest (B ++ rest) p 3 (length B) (length (byte_code 32 ++ B)) s s.mem s.mem (32 ∷ []) (signed_decimal (number_of (word_of f s.mem term))) (sym (length-append (byte_code 32) B)) one two'

acts_items : (f : Frame) (rest : List Inst) (p : ℕ) (s : State) (items : List Item) → All (IsSoundItem f) items → Ready f (items_code f p items ++ rest) p s → Acts f rest p (length (items_code f p items)) s s.mem (items_text f s.mem items)
acts_items f rest p s [] h r = acts_none f rest p s r
acts_items f rest p s (i ∷ items) h r =
    let A = item_code f p i in
    let B = items_code f (p + 4 * length A) items in
    let one = acts_item f (B ++ rest) p s i (h 0 i (omega arith)) (ready_split f A B rest p s r) in
    let two = acts_items f rest (p + 4 * length A) one.then items (λ k d l. h (suc k) d (omega arith)) one.ready in
    let two' = subst (λ m. Acts f rest (p + 4 * length A) (length B) one.then m (items_text f m items)) one.mem two in
    acts_then f rest (B ++ rest) p (length A) (length B) (length (A ++ B)) s s.mem s.mem (item_text f s.mem i) (items_text f s.mem items) (sym (length-append A B)) one two'

pub acts_record : (f : Frame) (rest : List Inst) (p : ℕ) (s : State) (items : List Item) → All (IsSoundItem f) items → Ready f (record_code f p items ++ rest) p s → Acts f rest p (length (record_code f p items)) s s.mem (record_text f s.mem items)
acts_record f rest p s [] h r = acts_byte f rest p s 32 (lit< tt) r
acts_record f rest p s (i ∷ items) h r = acts_items f rest p s (i ∷ items) h r

-- The file of a program, and the machine that starts on it.
use Rattle.std.proofs.Common.{◌≡◌, ℕ, ◌+◌, ◌-◌, ◌*◌, ◌≤◌, ℤ, List, [], ◌++◌, length, refl, sym, ap, ◌∙◌, subst, arith, length-append}
use Rattle.std.specs.List.{All}
use Rattle.std.proofs.lemmas.List.Sums.{sum_by-le}
use Rattle.std.proofs.lemmas.List.Elements.{All-push}
use Rattle.thin_form.specs.declared.statement.Statement.{Statement}
use Rattle.thin_form.specs.declared.statement.Statement.TheVariants.{End}
use Rattle.thin_form.specs.Programs.{size_of, IsProgram, IsSmall}
use Rattle.rv_machine.specs.Machine.{State}
use Rattle.rv_machine.specs.Start.{start, Loads}
use Rattle.rv_code.specs.Pieces.{jump_code}
use Rattle.elf_file.specs.Shape.{Shape, zeros, data_at, file_bytes}
use Rattle.elf_file.proofs.Unique.{shape_unique}
use Rattle.run_model.specs.Storage.{Name}
use Rattle.thin_code.specs.Layout.{names_of}
use Rattle.thin_code.specs.Code.{Frame, body_code, program_code, bytes_of, frame_of, file_of}
use Rattle.thin_code.proofs.Effects.{IsSound}
use Rattle.thin_code.proofs.Acting.{Ready}
use Rattle.thin_code.proofs.Agreeing.{Begun}
use Rattle.thin_code.proofs.Counts.{body_words, length-body, body_bytes, body_tokens}
use Rattle.thin_code.proofs.Ranges.{program_fits}
use Rattle.thin_code.proofs.Stands.{stand, length-bytes_of}
use Rattle.thin_code.proofs.Placed.{sound, few_names}

-- ---- sizes

-- the words of a program's code
pub length-program : (f : Frame) (body : List Statement) → length (program_code f body) ≡ 2 + body_words body
length-program f body = length-append (jump_code 65536 65544) (body_code f 65544 body) ∙ ap (λ n. 2 + n) (length-body f 65544 body)

abbrev pub code_of : List Statement → List ℕ
code_of body = bytes_of (program_code (frame_of body) body)

abbrev pub memory_size : List Statement → ℕ
memory_size body = 8 * length (names_of body)

pub length-code : (body : List Statement) → length (code_of body) ≡ 4 * (2 + body_words body)
length-code body = length-bytes_of (program_code (frame_of body) body) ∙ ap (λ n. 4 * n) (length-program (frame_of body) body)

-- the frame's address is that of the file
frame-data_at : (body : List Statement) → (frame_of body).data_at ≡ data_at (length (code_of body))
frame-data_at body =
    ap (λ n. data_at (4 * n)) (length-program (record { names = names_of body; data_at = 0 }) body) ∙ sym (ap data_at (length-code body))

pub record Small (body : List Statement) : Type 0 where
  pub words : body_words body ≤ 8 * (20000 * 1320)
  pub names : length (names_of body) ≤ 2 * 20000 + 2 * (20000 * 1320)

pub small : (body : List Statement) → IsSmall body → Small body
small body p =
    let f = p.few in
    let n = few_names body in
    let t = body_tokens body in
    let z = sum_by-le size_of 1320 body p.short in
    let w = body_bytes body in
    record { words = omega (arith, f, z, w); names = omega (arith, f, n, t, z) }

pub shaped : (body : List Statement) → IsSmall body → Shape (file_of body) (code_of body) [] (memory_size body)
unfolding file_of
shaped body p =
    let b = small body p in
    let c = length-code body in
    record {
      sizes = record {
        words = omega (arith, c);
        units = refl;
        memory_units = omega arith;
        within = omega arith;
        below = omega (arith, c, b.words, b.names);
      };
      bytes_are = refl;
    }

-- the machine that starts on the file
starts : (body : List Statement) → IsProgram body → IsSmall body → (input : List ℤ) → Ready (frame_of body) (program_code (frame_of body) body) 65536 (start (code_of body) [] (memory_size body) input)
starts body p q input =
    let f = frame_of body in
    let b = small body q in
    let c = length-code body in
    let e = frame-data_at body in
    let sounds : All (IsSound f) body = sound_body body p in
    record {
      at = refl;
      runs = record {
        runs = refl;
        here = stand ([] ++ zeros (memory_size body - 0)) (data_at (length (code_of body))) (code_of body) [] (program_code f body) (omega arith) refl (program_fits f body sounds);
        apart = omega arith;
        within = omega (arith, c, b.words, b.names);
        below = omega arith;
      };
      zero = refl;
      low = omega arith;
      data_is = sym e;
      end_is = ap (λ n. n + memory_size body) (sym e);
      aligned = rw e (omega arith);
      near = rw e (omega (arith, c, b.words, b.names));
    }
  where
    sound_body : (body : List Statement) → (p : IsProgram body) → All (IsSound (frame_of body)) body
    sound_body body p =
        let front = sound (frame_of body) p.front (ap names_of p.ends) p.plain in
        subst (All (IsSound (frame_of body))) (sym p.ends) (All-push (IsSound (frame_of body)) p.front End front tt)

pub begun : (body : List Statement) (p : IsProgram body) → IsSmall body → (input : List ℤ) (s : State) → Loads (file_of body) input s → Begun (frame_of body) p.front s
begun body p q input s h =
    let f = frame_of body in
    let same = shape_unique (file_of body) h.code h.file h.memory (code_of body) [] (memory_size body) h.shape (shaped body q) in
    let e : s ≡ start (code_of body) [] (memory_size body) input = h.stands ∙ (λ i. start (same.same_code i) (same.same_file i) (same.same_memory i) input) in
    record {
      ready = subst (λ b. Ready f (program_code f b) 65536 s) p.ends (subst (Ready f (program_code f body) 65536) (sym e) (starts body p q input));
      plain = p.plain;
      sound = sound f p.front (ap names_of p.ends) p.plain;
    }

-- the frame that the linker makes: the code is measured with the data at address 0
pub framed : (body : List Statement) (names : List Name) (measured : List ℕ) (address : ℕ) → names ≡ names_of body → measured ≡ bytes_of (program_code (record { names = names; data_at = 0 }) body) → address ≡ data_at (length measured)
    → let f : Frame = record { names = names; data_at = address } in f ≡ frame_of body
framed body names measured address n m a =
    let first : Frame = record { names = names; data_at = 0 } in
    let l : length measured ≡ 4 * length (program_code first body) = ap length m ∙ length-bytes_of (program_code first body) in
    let e : address ≡ data_at (4 * length (program_code first body)) = a ∙ ap data_at l in
    λ i. record { names = n i; data_at = (e ∙ (λ j. data_at (4 * length (program_code (record { names = n j; data_at = 0 }) body)))) i }

-- how long code is that a frame's program has
pub measured_length : (f : Frame) (body : List Statement) (code : List ℕ) → code ≡ bytes_of (program_code f body) → length code ≡ 4 * (2 + body_words body)
measured_length f body code e = ap length e ∙ length-bytes_of (program_code f body) ∙ ap (λ n. 4 * n) (length-program f body)

-- the file of this code and this number of variables
pub file_is : (body : List Statement) (bytes code : List ℕ) (count : ℕ) → bytes ≡ file_bytes code [] (8 * count) → code ≡ code_of body → count ≡ length (names_of body) → bytes ≡ file_of body
unfolding file_of
file_is body bytes code count e c n = e ∙ (λ i. file_bytes (c i) [] (8 * n i))

pub code_is : (body : List Statement) (f : Frame) (code : List ℕ) → code ≡ bytes_of (program_code f body) → f ≡ frame_of body → code ≡ code_of body
code_is body f code e g = e ∙ ap (λ f. bytes_of (program_code f body)) g

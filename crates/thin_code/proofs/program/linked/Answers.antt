use Rattle.std.proofs.Common.{◌≡◌, ◌∙◌, ap, length, arith}
use Rattle.elf_file.specs.Shape.{data_at}
use Rattle.thin_code.specs.Layout.{names_of}
use Rattle.thin_code.specs.Code.{file_of}
use Rattle.thin_code.proofs.Given.{if_ok}
use Rattle.thin_code.proofs.Filed.{small, framed, measured_length, code_is, file_is}
use Rattle.thin_code.proofs.program.linked.Goals as goal

pub overflow_mul-memory : goal.overflow_mul-memory
overflow_mul-memory c =
    let b = small c.args.body.now c.requires in
    let n = ap length (c.in_ok-names.ensures {u = tt}) in
    omega (arith, c.len.ensures.len, n, b.names)

pub invariant_of-unplaced : goal.invariant_of-unplaced
invariant_of-unplaced c =
    let b = small c.args.body.now c.requires in
    let n = ap length (c.in_ok-names.ensures {u = tt}) in
    record { within = omega (arith, n, b.names) }

pub invariant_of-area : goal.invariant_of-area
invariant_of-area c =
    let b = small c.args.body.now c.requires in
    let n = ap length (c.in_ok-names.ensures {u = tt}) in
    let l = measured_length (record { names = c.in_ok-names.names.keys; data_at = 0 }) c.args.body.now c.in_ok-measured.measured.items (c.in_ok-measured.ensures {u = tt}) in
    record { within = omega (arith, n, b.names, b.words, l, c.len-2.ensures, c.data_address-address.ensures.address) }

pub elf_bytes-requires-clause-words : goal.elf_bytes-requires-clause-words
elf_bytes-requires-clause-words c =
    let l = measured_length (record { names = c.in_ok-names.names.keys; data_at = c.data_address-address.result }) c.args.body.now c.in_ok-code.code.items (c.in_ok-code.ensures {u = tt}) in
    let s = ap length c.as_slice.ensures.value in
    omega (arith, l, s)

pub elf_bytes-requires-clause-below : goal.elf_bytes-requires-clause-below
elf_bytes-requires-clause-below c =
    let b = small c.args.body.now c.requires in
    let n = ap length (c.in_ok-names.ensures {u = tt}) in
    let l = measured_length (record { names = c.in_ok-names.names.keys; data_at = c.data_address-address.result }) c.args.body.now c.in_ok-code.code.items (c.in_ok-code.ensures {u = tt}) in
    let s = ap length c.as_slice.ensures.value in
    omega (arith, l, s, n, b.names, b.words, c.len.ensures.len)

pub returns : goal.returns
returns c =
    let body = c.args.body.now in
    let names = c.in_ok-names.ensures {u = tt} in
    let measured = c.in_ok-measured.ensures {u = tt} in
    let size : c.len-2.result ≡ length c.in_ok-measured.measured.items = omega (arith, c.len-2.ensures) in
    let frame = framed body c.in_ok-names.names.keys c.in_ok-measured.measured.items c.data_address-address.result names measured (c.data_address-address.ensures.address ∙ ap data_at size) in
    let code = code_is body (record { names = c.in_ok-names.names.keys; data_at = c.data_address-address.result }) c.in_ok-code.code.items (c.in_ok-code.ensures {u = tt}) frame in
    let count : c.len.result ≡ length (names_of body) = c.len.ensures.len ∙ ap length names in
    if_ok {Q = λ file. file.items ≡ file_of body} c.elf_bytes.result (λ file e. file_is body file.items c.as_slice.result.now c.len.result e (c.as_slice.ensures.value ∙ code) count) c.elf_bytes.ensures.bytes

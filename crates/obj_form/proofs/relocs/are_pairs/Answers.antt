use Rattle.std.proofs.Common.{◌≡◌, ◌+◌, ◌<◌, length, replicate, false, Some, refl, ap, sym, subst, ◌∙◌, rules}
use Rattle.std.specs.List.{slice_get}
use Rattle.std.proofs.lemmas.Option.{slice_get_read}
use Rattle.obj_form.proofs.Pairs.{Taken, free_if_pairs, pair_set, pair_set-long, taken_all, taken_more, taken_none, whole_slice}
use Rattle.obj_form.proofs.relocs.are_pairs.Goals as goal

pub reloc-init : goal.reloc-init
reloc-init c =
    let fresh : c.in_ok-taken.taken.items ≡ replicate c.args.words false = search rules in
    subst (Taken c.args.words c.args.relocs.now 0) (sym fresh) (taken_none c.args.words c.args.relocs.now)

pub reloc-preserved : goal.reloc-preserved
reloc-preserved c =
    let relocs = c.args.relocs.now in
    let taken = c.reloc.taken.items in
    let now = c.reloc-item.result in
    let within : c.reloc.reloc-index < length relocs = search rules in
    let stands = slice_get_read relocs (length relocs) c.reloc.reloc-index now refl within c.reloc-item.is in
    let value : c.as_mut_slice.result.now ≡ taken = c.as_mut_slice.ensures.value in
    let free = c.if-not-take_pair.ensures.free.0 refl in
    let first : slice_get taken now.word ≡ Some false = ap (λ t. slice_get t now.word) (sym value) ∙ free.0 in
    let second : slice_get taken (now.word + 1) ≡ Some false = ap (λ t. slice_get t (now.word + 1)) (sym value) ∙ free.1 in
    let marks : c.take_pair.new.taken ≡ pair_set taken now.word = c.if-not-take_pair.ensures.marks refl ∙ ap (λ t. pair_set t now.word) value in
    let long : length taken ≡ c.reloc.taken.len = search rules in
    let kept : length c.take_pair.new.taken ≡ c.reloc.taken.len = ap (λ t. length t) marks ∙ pair_set-long taken now.word ∙ long in
    subst (Taken c.args.words relocs (c.reloc.reloc-index + 1)) (sym (whole_slice c.reloc.taken.len c.take_pair.new.taken taken kept long ∙ marks))
    (taken_more c.args.words relocs c.reloc.reloc-index taken now stands c.reloc.invariant first second)

pub returns-then-not-take_pair : goal.returns-then-not-take_pair
returns-then-not-take_pair c =
    let relocs = c.args.relocs.now in
    let taken = c.reloc.taken.items in
    let now = c.reloc-item.result in
    let within : c.reloc.reloc-index < length relocs = search rules in
    let stands = slice_get_read relocs (length relocs) c.reloc.reloc-index now refl within c.reloc-item.is in
    let value : c.as_mut_slice.result.now ≡ taken = c.as_mut_slice.ensures.value in (
      λ no. cc no,
      λ pairs.
          let free = free_if_pairs c.args.words relocs c.reloc.reloc-index taken now stands c.reloc.invariant pairs in
          c.if-not-take_pair.ensures.free.1
          (ap (λ t. slice_get t now.word) value ∙ free.0, ap (λ t. slice_get t (now.word + 1)) value ∙ free.1),
    )

pub returns : goal.returns
returns c = (λ yes. taken_all c.args.words c.args.relocs.now c.reloc.reloc-index c.reloc.taken.items c.reloc-test.false c.reloc.invariant, λ pairs. refl)

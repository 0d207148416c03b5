-- A fold over a form, one layer.
use Rattle.std.proofs.Common.{◌≡◌, sym, ap, ◌∙◌}
use Rattle.f77_tree.specs.declared.form.Form.{Form, out-Form, roll-Form, out-roll-Form, ind-Form, fold-Form, fold-roll-Form}
use Rattle.f77_tree.specs.declared.form.Form.TheFolds.{map-Form}
use Rattle.f77_tree.specs.declared.form.Form.TheOpen.{Form-F}

module _ {X : Type 0} (g : Form-F X → X) where
  abbrev Opens : Form → Type 0
  Opens form = fold-Form X g form ≡ g (map-Form Form X (fold-Form X g) (out-Form form))

  opens_at : (x : Form-F Form) → Opens (roll-Form x)
  opens_at x = fold-roll-Form X g x ∙ ap (λ z. g (map-Form Form X (fold-Form X g) z)) (sym (out-roll-Form x))

  pub opens : (form : Form) → Opens form
  opens = ind-Form Opens (λ x y is. opens_at x)

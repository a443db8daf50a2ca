use Rattle.std.proofs.Common.{sym, ap, ◌∙◌}
use Rattle.hx_marks.specs.Table.{MapView}
use Rattle.hx_marks.proofs.Columns.{same_words_of, same_values_of, same_table_of}
use Rattle.hx_marks.proofs.marks.Marks.is_same.Goals as goal

pub returns : goal.returns
returns c =
    let es = ap (λ (v : MapView). v.entries) c.self.view_is in
    let fs = ap (λ (v : MapView). v.entries) c.other.view_is in (
      λ h.
          let both = c.same_columns.ensures.0 h in
          same_table_of c.self.inside.words.items c.other.inside.words.items c.self.inside.values.items c.other.inside.values.items c.args.self.now.entries c.args.other.now.entries es fs c.self.invariant.1 c.other.invariant.1 (sym c.deref.ensures.value ∙ both.0 ∙ c.deref-3.ensures.value) (sym c.deref-2.ensures.value ∙ both.1 ∙ c.deref-4.ensures.value),
      λ same. c.same_columns.ensures.1 (
        c.deref.ensures.value ∙ same_words_of c.self.inside.words.items c.other.inside.words.items c.self.inside.values.items c.other.inside.values.items c.args.self.now.entries c.args.other.now.entries es fs c.self.invariant.1 c.other.invariant.1 same ∙ sym c.deref-3.ensures.value,
        c.deref-2.ensures.value ∙ same_values_of c.self.inside.words.items c.other.inside.words.items c.self.inside.values.items c.other.inside.values.items c.args.self.now.entries c.args.other.now.entries es fs c.self.invariant.1 c.other.invariant.1 same ∙ sym c.deref-4.ensures.value,
      ),
    )

use Rattle.std.proofs.Common.{◌≡◌, ◌∙◌, sym, refl, true, false}
use Rattle.hx_code.proofs.Validation.{all_valid, words_of_valid, carries_of_valid, limits_same}
use Rattle.hx_code.proofs.validate.is_valid.Goals as goal

pub returns-then-not-words_are_fine : goal.returns-then-not-words_are_fine
returns-then-not-words_are_fine c = (λ e. absurd cc, λ v. c.if-not-words_are_fine.ensures.1 (words_of_valid c.args.words.now c.args.tables.now v))

pub regions_begin-requires-clause-words : goal.regions_begin-requires-clause-words
regions_begin-requires-clause-words c = c.if-not-words_are_fine.ensures.0 refl

pub returns-then-regions_begin : goal.returns-then-regions_begin
returns-then-regions_begin c = (
  (λ e. all_valid c.args.words.now c.args.tables.now (c.if-not-has_spots.ensures.0 refl) (limits_same c.args.words.now c.args.tables.now (c.if-not-is_within_limits.ensures.0 refl)) (c.if-not-words_are_fine.ensures.0 refl) (c.if-not-functions_begin.ensures.0 refl) (c.if-regions_begin.ensures.0 refl) (c.regions_carry_well.ensures.0 e)),
  (λ v. c.regions_carry_well.ensures.1 (carries_of_valid c.args.words.now c.args.tables.now v)),
)

pub returns-else-regions_begin : goal.returns-else-regions_begin
returns-else-regions_begin c = (
  (λ e. absurd (let k : false ≡ true = sym c.if-regions_begin.false ∙ e in cc)),
  (λ v. c.regions_begin.ensures.1 v.regions),
)

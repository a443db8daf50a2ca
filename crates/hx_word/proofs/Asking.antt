-- What is asked, by its name.
use Rattle.std.proofs.Common.{◌≡◌, ◌≢◌, ℕ, ℤ, List, sym, subst, ◌∙◌}
use Rattle.hx_code.specs.declared.word.Ask.{Ask}
use Rattle.hx_code.specs.declared.word.Ask.TheVariants.{Goes}
use Rattle.hx_code.specs.declared.word.Next.{Next}
use Rattle.hx_code.specs.Code.{CodeView}
use Rattle.hx_code.specs.Local.{LocalView}
use Rattle.hx_code.specs.Fits.{LocalGoingOver, LocalStretchOver}

pub asked_as : (code : CodeView) (k : ℕ) (l : LocalView) (s s' : List ℤ) (m : LocalView) (t t' : List ℤ) (ask as_this : Ask) (next : Next)
    → (ask ≢ Goes → LocalStretchOver code k l s ask next m t) → s ≡ s' → t ≡ t' → ask ≡ as_this → as_this ≢ Goes → LocalStretchOver code k l s' as_this next m t'
asked_as code k l s s' m t t' ask as_this next w before after is other =
    let one = subst (λ a. LocalStretchOver code k l s a next m t) is (w (λ e. other (sym is ∙ e))) in
    let two = subst (λ x. LocalStretchOver code k l x as_this next m t) before one in
    subst (λ x. LocalStretchOver code k l s' as_this next m x) after two

pub went_as : (code : CodeView) (k : ℕ) (l : LocalView) (s s' : List ℤ) (m : LocalView) (t t' : List ℤ) → LocalGoingOver code k l s m t → s ≡ s' → t ≡ t' → LocalGoingOver code k l s' m t'
went_as code k l s s' m t t' w before after =
    subst (λ x. LocalGoingOver code k l s' m x) after (subst (λ x. LocalGoingOver code k l x m t) before w)

pub isnt_goes : (ask as_this : Ask) → ask ≡ as_this → as_this ≢ Goes → ask ≢ Goes
isnt_goes ask as_this is other = λ e. other (sym is ∙ e)

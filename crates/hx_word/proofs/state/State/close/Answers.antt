use Rattle.std.proofs.Common.{◌≡◌, ◌+◌, ◌++◌, ℕ, ℤ, List, ap, refl, ◌∙◌}
use Rattle.hx_code.specs.Region.{held, words_after}
use Rattle.hx_code.specs.Machine.{Machine, goes_behind}
use Rattle.hx_word.specs.Opening.{opened_of}
use Rattle.hx_word.proofs.MachineSteps.{out_of}
use Rattle.hx_word.proofs.state.State.close.Goals as goal

pub returns-clause-resumed : goal.returns-clause-resumed
returns-clause-resumed c =
    let code = c.args.code.now in
    let s = c.args.self.now in
    let i = s.iterations in
    let exit = c.args.exit in
    let o = opened_of i.opened in
    let behind : List ℤ → List ℕ → ℕ → ℕ → Machine = λ words text turns regions. goes_behind code o.region exit words (record (out_of s) { text = text; turns = turns; regions = regions }) in
    let words : c.settle_words.new.words ≡ words_after code exit o i.number s.store.items = c.settle_words.ensures o refl refl ∙ ap (words_after code exit o i.number) c.deref.ensures.value in
    let text : c.append.new.self.items ≡ s.text.items ++ i.text.items = c.in-Ok.ensures.items in
    let turns : c.saturating_add-self.result ≡ held (s.turns + i.turns) = c.saturating_add-self.ensures in
    let regions : c.saturating_add-self-2.result ≡ held (s.regions + 1) = c.saturating_add-self-2.ensures in
    c.go_behind.ensures.behind
    ∙ ap (λ w. behind w c.append.new.self.items c.saturating_add-self.result c.saturating_add-self-2.result) words
    ∙ ap (λ tx. behind (words_after code exit o i.number s.store.items) tx c.saturating_add-self.result c.saturating_add-self-2.result) text
    ∙ ap (λ n. behind (words_after code exit o i.number s.store.items) (s.text.items ++ i.text.items) n c.saturating_add-self-2.result) turns
    ∙ ap (λ n. behind (words_after code exit o i.number s.store.items) (s.text.items ++ i.text.items) (held (s.turns + i.turns)) n) regions

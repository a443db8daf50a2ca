-- The loops of the parser: what is read so far, and what reading goes on to give.
use Rattle.std.proofs.Common.{◌≡◌, ℕ, zero, suc, ◌+◌, ◌-◌, ◌<◌, ◌≤◌, max, Bool, true, false, cond, List, [], ◌∷◌, ◌++◌, length, map, Option, Some, None, Result, Ok, Err, refl, sym, ap, ◌∙◌, arith, append_assoc}
use Rattle.std.specs.Prelude.{nat_lt, nat_le, IfOk, IfErr, OnOk}
use Rattle.std.proofs.lemmas.List.{map_push}
use Rattle.std.proofs.lemmas.Bool.{lt-ltb, le-ltb, le-leb, lt-leb}
use Rattle.hx_tree.specs.declared.token.Pos.{Pos}
use Rattle.hx_tree.specs.declared.token.Mark.{Mark}
use Rattle.hx_tree.specs.declared.token.Mark.TheVariants as mark
use Rattle.hx_tree.specs.declared.tree.BinaryOp.{BinaryOp}
use Rattle.hx_tree.specs.Lexis.{Token}
use Rattle.hx_tree.specs.Grammar.{layer}
use Rattle.hx_tree.specs.Tree.{Expr, Binary, exprs}
use Rattle.hx_tree.specs.Height.{height, heights}
use Rattle.hx_grammar.specs.Reading as reading
use Rattle.hx_grammar.specs.Reading.{◌>>=◌, Reading, Reader, Refusal, behind, Turn, Further, Ends, at_comma, until, until_end, turned, many, all_of, listed, listed_from, operator_at, Below, arguments_at, expect, operand_at, chain, chained_at, arms_at, question_at, choice_turn, expr_at}
use Rattle.hx_parse.specs.declared.error.ParseError.{ParseError}
use Rattle.hx_parse.specs.declared.error.ParseError.TheVariants.{Syntax, TooDeep, Memory}
use Rattle.hx_parse.specs.Gives.{Fails, Gives, Stops, StaysOpen, Extends, itself}
use Rattle.hx_parse.proofs.Marks.{behind_shorter}

-- ---- a refusal goes through what comes behind it

pub fails_then : {X Y : Type 0} (e : ParseError) (read : Result X Refusal) (f : X → Result Y Refusal) → Fails e read → Fails e (read >>= f)
fails_then (Syntax pos) read f h = rw h refl
fails_then TooDeep read f h = rw h refl
fails_then Memory read f h = tt

-- what is made of a value is refused as its reading is
pub stops_fails : {X Y : Type 0} (view : X → Y) (value : Result X ParseError) (to : List Token) (read : Reading Y) (e : ParseError) → Gives view value to read → Stops value e → Fails e read
stops_fails view (Ok x) to read e h s = rw s tt
stops_fails view (Err f) to read e h s = rw s h

-- so is a value with a mark behind it
pub open_fails : {X Y Z : Type 0} (view : X → Y) (value : Result X ParseError) (to : List Token) (read : Reading Y) (m : Mark) (made : Y × List Token → List Token → Result Z Refusal) (e : ParseError)
    → Gives view value to read → StaysOpen value (expect m to) e → Fails e (read >>= λ x. expect m x.1 >>= λ rest. made x rest)
open_fails view (Ok x) to read m made e h s = rw h (fails_then e (expect m to) (λ rest. made (view x, to) rest) s)
open_fails view (Err f) to read m made e h s = rw s (fails_then f read (λ x. expect m x.1 >>= λ rest. made x rest) h)

pub closed_gives : {X Y : Type 0} (view : X → Y) (value : Result X ParseError) (mid to : List Token) (read : Reading Y) (m : Mark) (result : Result X ParseError)
    → Gives view value mid read → IfOk result (λ x. (value ≡ Ok x) × (expect m mid ≡ Ok to)) → IfErr result (λ e. StaysOpen value (expect m mid) e)
    → Gives view result to (read >>= λ x. expect m x.1 >>= λ rest. Ok (x.0, rest))
closed_gives view value mid to read m (Ok x) h ok err = let read_is : read ≡ Ok (view x, mid) = rw ok.0 at h in rw (read_is, ok.1) refl
closed_gives view value mid to read m (Err e) h ok err = open_fails view value mid read m (λ x rest. Ok (x.0, rest)) e h err

-- what is known of a value in a list
pub extended : {X P : Type 0} (xs ys : List X) (value : Result X ParseError) → Extends xs value ys → OnOk value P → P
extended xs ys (Ok x) h p = p
extended xs ys (Err e) h p = absurd h

-- ---- lists

-- what is read, before what is read further
abbrev pub onto : {X : Type 0} → List X → Reading (List X) → Reading (List X)
onto xs read = read >>= λ r. Ok (xs ++ r.0, r.1)

-- xs are read, tokens is what follows, and going on gives the whole
pub record Goes {X : Type 0} (next : List Token → Turn) (item : Reader X) (whole : Reading (List X)) (xs : List X) (tokens : List Token) : Type 0 where
  pub fuel : ℕ
  pub enough : length tokens ≤ fuel
  pub reads : onto xs (many next item fuel tokens) ≡ whole

onto_nothing : {X : Type 0} (read : Reading (List X)) → onto [] read ≡ read
onto_nothing (Ok x) = refl
onto_nothing (Err e) = refl

regroup : {X : Type 0} (xs : List X) (x : X) (read : Reading (List X)) → onto xs (read >>= λ r. Ok (x ∷ r.0, r.1)) ≡ onto (xs ++ x ∷ []) read
regroup xs x (Ok r) = rw append_assoc refl
regroup xs x (Err e) = refl

append_nil : {X : Type 0} (xs : List X) → xs ++ [] ≡ xs
append_nil [] = refl
append_nil (x ∷ xs) = ap (λ ys. x ∷ ys) (append_nil xs)

pub goes_begins : {X : Type 0} (next : List Token → Turn) (item : Reader X) (from : List Token) → Goes next item (all_of next item from) [] from
goes_begins next item from = record { fuel = length from; enough = omega arith; reads = onto_nothing (many next item (length from) from) }

pub goes_begins_listed : {X : Type 0} (item : Reader X) (from tokens : List Token) (x : X) → item from ≡ Ok (x, tokens) → Goes at_comma item (listed item from) (x ∷ []) tokens
goes_begins_listed item from tokens x h = record { fuel = length tokens; enough = omega arith; reads = rw h refl }

pub goes_begins_from : {X : Type 0} (item : Reader X) (from : List Token) (x : X) → Goes at_comma item (listed_from item x from) (x ∷ []) from
goes_begins_from item from x = record { fuel = length from; enough = omega arith; reads = refl }

pub goes_ends : {X : Type 0} (next : List Token → Turn) (item : Reader X) (whole : Reading (List X)) (xs : List X) (tokens rest : List Token)
    → Goes next item whole xs tokens → next tokens ≡ Ends rest → whole ≡ Ok (xs, rest)
unfolding many
goes_ends next item whole xs tokens rest so_far at = sym (so_far.reads) ∙ ends so_far.fuel
  where
    ends : (fuel : ℕ) → onto xs (many next item fuel tokens) ≡ Ok (xs, rest)
    ends zero = rw (at, append_nil xs) refl
    ends (suc m) = rw (at, append_nil xs) refl

pub goes_on : {X : Type 0} (next : List Token → Turn) (item : Reader X) (whole : Reading (List X)) (xs : List X) (x : X) (tokens rest to : List Token)
    → Goes next item whole xs tokens → next tokens ≡ Further rest → item rest ≡ Ok (x, to) → length to < length tokens → Goes next item whole (xs ++ x ∷ []) to
unfolding many
goes_on next item whole xs x tokens rest to so_far at h less = go so_far.fuel so_far.enough so_far.reads
  where
    go : (fuel : ℕ) → length tokens ≤ fuel → onto xs (many next item fuel tokens) ≡ whole → Goes next item whole (xs ++ x ∷ []) to
    go zero le w = absurd (omega arith)
    go (suc m) le w =
        let one : onto xs (many next item (suc m) tokens) ≡ onto (xs ++ x ∷ []) (many next item m to) = rw (at, h) (regroup xs x (many next item m to)) in
        record { fuel = m; enough = omega arith; reads = sym one ∙ w }

pub goes_fails : {X : Type 0} (f : ParseError) (next : List Token → Turn) (item : Reader X) (whole : Reading (List X)) (xs : List X) (tokens rest : List Token)
    → Goes next item whole xs tokens → next tokens ≡ Further rest → Fails f (item rest) → Fails f whole
unfolding many
goes_fails Memory next item whole xs tokens rest so_far at h = tt
goes_fails TooDeep next item whole xs tokens rest so_far at h = sym (so_far.reads) ∙ ends so_far.fuel
  where
    ends : (fuel : ℕ) → onto xs (many next item fuel tokens) ≡ Err reading.TooDeep
    ends zero = rw (at, h) refl
    ends (suc m) = rw (at, h) refl
goes_fails (Syntax pos) next item whole xs tokens rest so_far at h = sym (so_far.reads) ∙ ends so_far.fuel
  where
    ends : (fuel : ℕ) → onto xs (many next item fuel tokens) ≡ Err reading.Syntax
    ends zero = rw (at, h) refl
    ends (suc m) = rw (at, h) refl

-- a list with commas between
pub listed_no_first : {X : Type 0} (f : ParseError) (item : Reader X) (from : List Token) → Fails f (item from) → Fails f (listed item from)
listed_no_first f item from h = fails_then f (item from) (λ x. listed_from item x.0 x.1) h

pub commas_end : {X : Type 0} (item : Reader X) (whole : Reading (List X)) (xs : List X) (tokens : List Token)
    → Goes at_comma item whole xs tokens → behind mark.Comma tokens ≡ None → whole ≡ Ok (xs, tokens)
commas_end item whole xs tokens so_far at = let ends : at_comma tokens ≡ Ends tokens = rw at refl in goes_ends at_comma item whole xs tokens tokens so_far ends

pub commas_go_on : {X : Type 0} (item : Reader X) (whole : Reading (List X)) (xs : List X) (x : X) (tokens rest to : List Token)
    → Goes at_comma item whole xs tokens → behind mark.Comma tokens ≡ Some rest → item rest ≡ Ok (x, to) → length to < length rest → Goes at_comma item whole (xs ++ x ∷ []) to
commas_go_on item whole xs x tokens rest to so_far at h less =
    let goes : at_comma tokens ≡ Further rest = rw at refl in
    goes_on at_comma item whole xs x tokens rest to so_far goes h (omega (arith, behind_shorter mark.Comma tokens rest at))

pub commas_fail : {X : Type 0} (f : ParseError) (item : Reader X) (whole : Reading (List X)) (xs : List X) (tokens rest : List Token)
    → Goes at_comma item whole xs tokens → behind mark.Comma tokens ≡ Some rest → Fails f (item rest) → Fails f whole
commas_fail f item whole xs tokens rest so_far at h =
    let goes : at_comma tokens ≡ Further rest = rw at refl in
    goes_fails f at_comma item whole xs tokens rest so_far goes h

-- the same of lists that values are put behind
pub commas_begin : {X Y : Type 0} (view : X → Y) (item : Reader Y) (from to : List Token) (value : Result X ParseError) (xs : List X)
    → Gives view value to (item from) → Extends [] value xs → Goes at_comma item (listed item from) (map view xs) to
commas_begin view item from to (Ok x) xs h s = rw s (goes_begins_listed item from to (view x) h)
commas_begin view item from to (Err e) xs h s = absurd s

pub commas_no_first : {X Y : Type 0} (view : X → Y) (item : Reader Y) (from to : List Token) (value : Result X ParseError) (e : ParseError)
    → Gives view value to (item from) → Stops value e → Fails e (listed item from)
commas_no_first view item from to value e h s = listed_no_first e item from (stops_fails view value to (item from) e h s)

pub commas_extend : {X Y : Type 0} (view : X → Y) (item : Reader Y) (whole : Reading (List Y)) (xs ys : List X) (value : Result X ParseError) (tokens rest to : List Token)
    → Goes at_comma item whole (map view xs) tokens → behind mark.Comma tokens ≡ Some rest → Gives view value to (item rest) → OnOk value (length to < length rest) → Extends xs value ys
    → Goes at_comma item whole (map view ys) to
commas_extend view item whole xs ys (Ok x) tokens rest to so_far at h less s = rw (s, map_push view xs x) (commas_go_on item whole (map view xs) (view x) tokens rest to so_far at h less)
commas_extend view item whole xs ys (Err e) tokens rest to so_far at h less s = absurd s

pub commas_stop : {X Y : Type 0} (view : X → Y) (item : Reader Y) (whole : Reading (List Y)) (xs : List X) (value : Result X ParseError) (e : ParseError) (tokens rest to : List Token)
    → Goes at_comma item whole (map view xs) tokens → behind mark.Comma tokens ≡ Some rest → Gives view value to (item rest) → Stops value e → Fails e whole
commas_stop view item whole xs value e tokens rest to so_far at h s = commas_fail e item whole (map view xs) tokens rest so_far at (stops_fails view value to (item rest) e h s)

-- a list before a mark
pub until_ends : {X : Type 0} (m : Mark) (item : Reader X) (whole : Reading (List X)) (xs : List X) (tokens rest : List Token)
    → Goes (until m) item whole xs tokens → behind m tokens ≡ Some rest → whole ≡ Ok (xs, rest)
until_ends m item whole xs tokens rest so_far at = let ends : until m tokens ≡ Ends rest = rw at refl in goes_ends (until m) item whole xs tokens rest so_far ends

pub until_goes_on : {X : Type 0} (m : Mark) (item : Reader X) (whole : Reading (List X)) (xs : List X) (x : X) (tokens to : List Token)
    → Goes (until m) item whole xs tokens → behind m tokens ≡ None → item tokens ≡ Ok (x, to) → length to < length tokens → Goes (until m) item whole (xs ++ x ∷ []) to
until_goes_on m item whole xs x tokens to so_far at h less =
    let goes : until m tokens ≡ Further tokens = rw at refl in goes_on (until m) item whole xs x tokens tokens to so_far goes h less

pub until_fails : {X : Type 0} (f : ParseError) (m : Mark) (item : Reader X) (whole : Reading (List X)) (xs : List X) (tokens : List Token)
    → Goes (until m) item whole xs tokens → behind m tokens ≡ None → Fails f (item tokens) → Fails f whole
until_fails f m item whole xs tokens so_far at h =
    let goes : until m tokens ≡ Further tokens = rw at refl in goes_fails f (until m) item whole xs tokens tokens so_far goes h

pub until_extend : {X Y : Type 0} (view : X → Y) (m : Mark) (item : Reader Y) (whole : Reading (List Y)) (xs ys : List X) (value : Result X ParseError) (tokens to : List Token)
    → Goes (until m) item whole (map view xs) tokens → behind m tokens ≡ None → Gives view value to (item tokens) → OnOk value (length to < length tokens) → Extends xs value ys
    → Goes (until m) item whole (map view ys) to
until_extend view m item whole xs ys (Ok x) tokens to so_far at h less s = rw (s, map_push view xs x) (until_goes_on m item whole (map view xs) (view x) tokens to so_far at h less)
until_extend view m item whole xs ys (Err e) tokens to so_far at h less s = absurd s

pub until_stop : {X Y : Type 0} (view : X → Y) (m : Mark) (item : Reader Y) (whole : Reading (List Y)) (xs : List X) (value : Result X ParseError) (e : ParseError) (tokens to : List Token)
    → Goes (until m) item whole (map view xs) tokens → behind m tokens ≡ None → Gives view value to (item tokens) → Stops value e → Fails e whole
until_stop view m item whole xs value e tokens to so_far at h s = until_fails e m item whole (map view xs) tokens so_far at (stops_fails view value to (item tokens) e h s)

-- a list up to the last token
pub all_end : {X : Type 0} (item : Reader X) (whole : Reading (List X)) (xs : List X) (tokens : List Token) → Goes until_end item whole xs tokens → tokens ≡ [] → whole ≡ Ok (xs, tokens)
all_end item whole xs [] so_far none = goes_ends until_end item whole xs [] [] so_far refl
all_end item whole xs (t ∷ tokens) so_far none = absurd cc

pub all_go_on : {X : Type 0} (item : Reader X) (whole : Reading (List X)) (xs : List X) (x : X) (tokens to : List Token)
    → Goes until_end item whole xs tokens → 0 < length tokens → item tokens ≡ Ok (x, to) → length to < length tokens → Goes until_end item whole (xs ++ x ∷ []) to
all_go_on item whole xs x [] to so_far some h less = absurd (omega arith)
all_go_on item whole xs x (t ∷ tokens) to so_far some h less = goes_on until_end item whole xs x (t ∷ tokens) (t ∷ tokens) to so_far refl h less

pub all_fail : {X : Type 0} (f : ParseError) (item : Reader X) (whole : Reading (List X)) (xs : List X) (tokens : List Token)
    → Goes until_end item whole xs tokens → 0 < length tokens → Fails f (item tokens) → Fails f whole
all_fail f item whole xs [] so_far some h = absurd (omega arith)
all_fail f item whole xs (t ∷ tokens) so_far some h = goes_fails f until_end item whole xs (t ∷ tokens) (t ∷ tokens) so_far refl h

pub all_extend : {X Y : Type 0} (view : X → Y) (item : Reader Y) (whole : Reading (List Y)) (xs ys : List X) (value : Result X ParseError) (tokens to : List Token)
    → Goes until_end item whole (map view xs) tokens → 0 < length tokens → Gives view value to (item tokens) → OnOk value (length to < length tokens) → Extends xs value ys
    → Goes until_end item whole (map view ys) to
all_extend view item whole xs ys (Ok x) tokens to so_far some h less s = rw (s, map_push view xs x) (all_go_on item whole (map view xs) (view x) tokens to so_far some h less)
all_extend view item whole xs ys (Err e) tokens to so_far some h less s = absurd s

pub all_stop : {X Y : Type 0} (view : X → Y) (item : Reader Y) (whole : Reading (List Y)) (xs : List X) (value : Result X ParseError) (e : ParseError) (tokens to : List Token)
    → Goes until_end item whole (map view xs) tokens → 0 < length tokens → Gives view value to (item tokens) → Stops value e → Fails e whole
all_stop view item whole xs value e tokens to so_far some h s = all_fail e item whole (map view xs) tokens so_far some (stops_fails view value to (item tokens) e h s)

pub map_itself : {X : Type 0} (xs : List X) → map itself xs ≡ xs
map_itself [] = refl
map_itself (x ∷ xs) = ap (λ ys. x ∷ ys) (map_itself xs)

-- ---- arguments

pub no_arguments : (below : Below) (from rest : List Token) → behind mark.CloseParen from ≡ Some rest → arguments_at below from ≡ Ok ([], rest)
unfolding arguments_at
no_arguments below from rest at = rw at refl

pub arguments_are : (below : Below) (from mid to : List Token) (es : List Expr) → behind mark.CloseParen from ≡ None → listed (below 11) from ≡ Ok (es, mid) → expect mark.CloseParen mid ≡ Ok to
    → arguments_at below from ≡ Ok (es, to)
unfolding arguments_at
arguments_are below from mid to es at h i = rw (at, h, i) refl

pub arguments_fail : (f : ParseError) (below : Below) (from : List Token) → behind mark.CloseParen from ≡ None → Fails f (listed (below 11) from) → Fails f (arguments_at below from)
unfolding arguments_at
arguments_fail Memory below from at h = tt
arguments_fail TooDeep below from at h = rw (at, h) refl
arguments_fail (Syntax pos) below from at h = rw (at, h) refl

pub arguments_stay_open : (f : ParseError) (below : Below) (from mid : List Token) (es : List Expr) → behind mark.CloseParen from ≡ None → listed (below 11) from ≡ Ok (es, mid)
    → Fails f (expect mark.CloseParen mid) → Fails f (arguments_at below from)
unfolding arguments_at
arguments_stay_open Memory below from mid es at h i = tt
arguments_stay_open TooDeep below from mid es at h i = rw (at, h, i) refl
arguments_stay_open (Syntax pos) below from mid es at h i = rw (at, h, i) refl

-- ---- operators

-- left is read, tokens is what follows, and going on gives the whole
pub record Chained (room k : ℕ) (from : List Token) (left : Expr) (tokens : List Token) : Type 0 where
  pub fuel : ℕ
  pub enough : room ≤ fuel + height left
  pub reads : chain (expr_at (room - 1)) fuel room k left tokens ≡ chained_at (expr_at (room - 1)) room k from

pub chain_begins : (room k : ℕ) (from tokens : List Token) (left : Expr) → operand_at (expr_at (room - 1)) from ≡ Ok (left, tokens) → Chained room k from left tokens
unfolding chained_at
chain_begins room k from tokens left h = record { fuel = room; enough = omega arith; reads = rw h refl }

pub chain_no_operand : (f : ParseError) (room k : ℕ) (from : List Token) → Fails f (operand_at (expr_at (room - 1)) from) → Fails f (chained_at (expr_at (room - 1)) room k from)
unfolding chained_at
chain_no_operand f room k from h = fails_then f (operand_at (expr_at (room - 1)) from) (λ left. chain (expr_at (room - 1)) room room k left.0 left.1) h

pub chain_ends : (room k : ℕ) (from tokens : List Token) (left : Expr) → Chained room k from left tokens → operator_at k tokens ≡ None → chained_at (expr_at (room - 1)) room k from ≡ Ok (left, tokens)
unfolding chain
chain_ends room k from tokens left so_far none = sym (so_far.reads) ∙ ends so_far.fuel
  where
    ends : (fuel : ℕ) → chain (expr_at (room - 1)) fuel room k left tokens ≡ Ok (left, tokens)
    ends zero = rw none refl
    ends (suc m) = rw none refl

pub chain_too_deep : (room k : ℕ) (from tokens rest : List Token) (left : Expr) (o : BinaryOp) (p : Pos) → Chained room k from left tokens → operator_at k tokens ≡ Some (o, p, rest)
    → room ≤ height left → chained_at (expr_at (room - 1)) room k from ≡ Err reading.TooDeep
unfolding chain
chain_too_deep room k from tokens rest left o p so_far at le = sym (so_far.reads) ∙ ends so_far.fuel
  where
    high : nat_lt (height left) room ≡ false
    high = le-ltb (height left) room le

    ends : (fuel : ℕ) → chain (expr_at (room - 1)) fuel room k left tokens ≡ Err reading.TooDeep
    ends zero = rw (at, high) refl
    ends (suc m) = rw (at, high) refl

pub chain_goes_on : (room k : ℕ) (from tokens rest to : List Token) (left right : Expr) (o : BinaryOp) (p : Pos) → Chained room k from left tokens → operator_at k tokens ≡ Some (o, p, rest)
    → height left < room → expr_at (room - 1) (layer o - 1) rest ≡ Ok (right, to) → Chained room k from (Binary o p left right) to
unfolding chain
chain_goes_on room k from tokens rest to left right o p so_far at lt h = go so_far.fuel so_far.enough so_far.reads
  where
    low : nat_lt (height left) room ≡ true
    low = lt-ltb (height left) room lt

    go : (fuel : ℕ) → room ≤ fuel + height left → chain (expr_at (room - 1)) fuel room k left tokens ≡ chained_at (expr_at (room - 1)) room k from → Chained room k from (Binary o p left right) to
    go zero le e = absurd (omega arith)
    go (suc m) le e =
        let one : chain (expr_at (room - 1)) (suc m) room k left tokens ≡ chain (expr_at (room - 1)) m room k (Binary o p left right) to = rw (at, low, h) refl in
        record { fuel = m; enough = omega arith; reads = sym one ∙ e }

pub chain_no_right : (f : ParseError) (room k : ℕ) (from tokens rest : List Token) (left : Expr) (o : BinaryOp) (p : Pos) → Chained room k from left tokens → operator_at k tokens ≡ Some (o, p, rest)
    → height left < room → Fails f (expr_at (room - 1) (layer o - 1) rest) → Fails f (chained_at (expr_at (room - 1)) room k from)
unfolding chain
chain_no_right Memory room k from tokens rest left o p so_far at lt h = tt
chain_no_right TooDeep room k from tokens rest left o p so_far at lt h = sym (so_far.reads) ∙ go so_far.fuel so_far.enough
  where
    low : nat_lt (height left) room ≡ true
    low = lt-ltb (height left) room lt

    go : (fuel : ℕ) → room ≤ fuel + height left → chain (expr_at (room - 1)) fuel room k left tokens ≡ Err reading.TooDeep
    go zero le = absurd (omega arith)
    go (suc m) le = rw (at, low, h) refl
chain_no_right (Syntax q) room k from tokens rest left o p so_far at lt h = sym (so_far.reads) ∙ go so_far.fuel so_far.enough
  where
    low : nat_lt (height left) room ≡ true
    low = lt-ltb (height left) room lt

    go : (fuel : ℕ) → room ≤ fuel + height left → chain (expr_at (room - 1)) fuel room k left tokens ≡ Err reading.Syntax
    go zero le = absurd (omega arith)
    go (suc m) le = rw (at, low, h) refl

-- ---- the conditional operator

pub no_room : (k : ℕ) (from : List Token) → expr_at 0 k from ≡ Err reading.TooDeep
unfolding expr_at
no_room k from = refl

expr_is : (room k : ℕ) (from : List Token) → 0 < room
    → expr_at room k from ≡ (chained_at (expr_at (room - 1)) room k from >>= λ test. choice_turn (expr_at (room - 1)) room test.0 test.1 (question_at k test.1))
unfolding expr_at
expr_is zero k from pos = absurd (omega arith)
expr_is (suc n) k from pos = let e : suc n - 1 ≡ n = omega arith in rw e refl

pub no_test : (f : ParseError) (room k : ℕ) (from : List Token) → 0 < room → Fails f (chained_at (expr_at (room - 1)) room k from) → Fails f (expr_at room k from)
no_test f room k from pos h =
    rw (expr_is room k from pos)
    (fails_then f (chained_at (expr_at (room - 1)) room k from) (λ test. choice_turn (expr_at (room - 1)) room test.0 test.1 (question_at k test.1)) h)

pub no_choice : (room k : ℕ) (from to : List Token) (test : Expr) → 0 < room → chained_at (expr_at (room - 1)) room k from ≡ Ok (test, to) → k < 11 → expr_at room k from ≡ Ok (test, to)
unfolding question_at
no_choice room k from to test pos h low = let below : nat_le 11 k ≡ false = lt-leb 11 k low in rw (expr_is room k from pos, h, below) refl

pub no_question : (room k : ℕ) (from to : List Token) (test : Expr) → 0 < room → chained_at (expr_at (room - 1)) room k from ≡ Ok (test, to) → behind mark.Question to ≡ None
    → expr_at room k from ≡ Ok (test, to)
unfolding question_at
no_question room k from to test pos h none = rw (expr_is room k from pos, h, none) (go (nat_le 11 k))
  where
    go : (b : Bool) → choice_turn (expr_at (room - 1)) room test to (cond {A = Option (List Token)} b None None) ≡ Ok (test, to)
    go true = refl
    go false = refl

pub test_too_high : (room k : ℕ) (from mid rest : List Token) (test : Expr) → 0 < room → chained_at (expr_at (room - 1)) room k from ≡ Ok (test, mid) → 11 ≤ k
    → behind mark.Question mid ≡ Some rest → room ≤ height test → expr_at room k from ≡ Err reading.TooDeep
unfolding question_at
test_too_high room k from mid rest test pos h le at high =
    let all : nat_le 11 k ≡ true = le-leb 11 k le in
    let above : nat_lt (height test) room ≡ false = le-ltb (height test) room high in
    rw (expr_is room k from pos, h, all, at, above) refl

pub choice_is : (room k : ℕ) (from mid rest : List Token) (test : Expr) → 0 < room → chained_at (expr_at (room - 1)) room k from ≡ Ok (test, mid) → 11 ≤ k
    → behind mark.Question mid ≡ Some rest → height test < room → expr_at room k from ≡ arms_at (expr_at (room - 1)) test rest
unfolding question_at
choice_is room k from mid rest test pos h le at low =
    let all : nat_le 11 k ≡ true = le-leb 11 k le in
    let fits : nat_lt (height test) room ≡ true = lt-ltb (height test) room low in
    rw (expr_is room k from pos, h, all, at, fits) refl

pub heights-push : (es : List Expr) (e : Expr) → heights (exprs (es ++ e ∷ [])) ≡ max (heights (exprs es)) (height e)
heights-push [] e = omega arith
heights-push (d ∷ es) e = omega (arith, heights-push es e)

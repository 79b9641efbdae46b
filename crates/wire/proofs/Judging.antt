-- How the first no of a list of questions shows in a longer list.
use Rattle.std.proofs.Common.{◌≡◌, ℕ, Bool, true, false, if◌then◌else◌, List, [], ◌∷◌, ◌++◌, Ok, Err, Result, refl, arith}
use Rattle.wire.specs.declared.fault.ReadFault.{ReadFault}
use Rattle.wire.specs.Faults.{Asked, judged}

-- No answer is both a value and a fault.
pub apart : {X Y : Type 0} (x : X) (e : ReadFault) → ◌≡◌ {A = Result X ReadFault} (Ok x) (Err e) → Y
apart x e h = let z : ◌≡◌ {A = ℕ} 0 1 = cc in absurd (omega arith)

module _ {X Y : Type 0} (r : Result X ReadFault) (s : Result Y ReadFault) where
  one_stops : (t : Bool) (f e : ReadFault) → (r ≡ Err e → s ≡ Err e) → (if t then r else Err f) ≡ Err e → (if t then s else Err f) ≡ Err e
  one_stops true f e k h = k h
  one_stops false f e k h = cc

  one_goes_on : (t : Bool) (f : ReadFault) (z : X) (goal : Result Y ReadFault) → (r ≡ Ok z → s ≡ goal) → (if t then r else Err f) ≡ Ok z → (if t then s else Err f) ≡ goal
  one_goes_on true f z goal k h = k h
  one_goes_on false f z goal k h = let n : ◌≡◌ {A = ℕ} 0 1 = cc in absurd (omega arith)

-- A no among the first questions decides.
pub stops : {X Y : Type 0} (qs more : List Asked) (x : X) (y : Y) (e : ReadFault) → judged qs x ≡ Err e → judged (qs ++ more) y ≡ Err e
stops [] more x y e h = apart x e h
stops (a ∷ qs) more x y e h = one_stops (judged qs x) (judged (qs ++ more) y) a.yes _ e (stops qs more x y e) h

-- Where the first questions are all answered yes, the others decide.
pub goes_on : {X Y : Type 0} (qs more : List Asked) (x z : X) (y : Y) → judged qs x ≡ Ok z → judged (qs ++ more) y ≡ judged more y
goes_on [] more x z y h = refl
goes_on (a ∷ qs) more x z y h = one_goes_on (judged qs x) (judged (qs ++ more) y) a.yes _ z (judged more y) (goes_on qs more x z y) h

one_comes : {X : Type 0} (t : Bool) (r : Result X ReadFault) (f : ReadFault) (x z : X) → (r ≡ Ok z → x ≡ z) → (if t then r else Err f) ≡ Ok z → x ≡ z
one_comes true r f x z k h = k h
one_comes false r f x z k h = let n : ◌≡◌ {A = ℕ} 0 1 = cc in absurd (omega arith)

-- What comes where all are answered yes is the value.
pub comes : {X : Type 0} (qs : List Asked) (x z : X) → judged qs x ≡ Ok z → x ≡ z
comes [] x z h = cc
comes (a ∷ qs) x z h = one_comes a.yes (judged qs x) _ x z (comes qs x z) h

-- Every question is answered yes.
abbrev pub AllYes : List Asked → Type 0
AllYes [] = Unit {0}
AllYes (a ∷ more) = (a.yes ≡ true) × AllYes more

one_yes : {X : Type 0} (t : Bool) (r : Result X ReadFault) (f : ReadFault) (z : X) → (if t then r else Err f) ≡ Ok z → (t ≡ true) × (r ≡ Ok z)
one_yes true r f z h = (refl, h)
one_yes false r f z h = let n : ◌≡◌ {A = ℕ} 0 1 = cc in absurd (omega arith)

-- A value comes only where every question is answered yes,
pub all_yes : {X : Type 0} (qs : List Asked) (x z : X) → judged qs x ≡ Ok z → AllYes qs
all_yes [] x z h = tt
all_yes (a ∷ qs) x z h = let p = one_yes a.yes (judged qs x) _ z h in (p.0, all_yes qs x z p.1)

-- and it comes there.
pub passes : {X : Type 0} (qs : List Asked) (x : X) → AllYes qs → judged qs x ≡ Ok x
passes [] x h = refl
passes (a ∷ qs) x h = rw h.0 (passes qs x h.1)

-- Two lists of questions that are answered yes, joined and taken apart.
pub yes_join : (qs more : List Asked) → AllYes qs → AllYes more → AllYes (qs ++ more)
yes_join [] more h k = k
yes_join (a ∷ qs) more h k = (h.0, yes_join qs more h.1 k)

pub yes_split : (qs more : List Asked) → AllYes (qs ++ more) → AllYes qs × AllYes more
yes_split [] more h = (tt, h)
yes_split (a ∷ qs) more h = let p = yes_split qs more h.1 in ((h.0, p.0), p.1)

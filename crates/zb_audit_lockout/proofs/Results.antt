-- What calls ensure if they return `Ok`, put together.
use Rattle.std.proofs.Common.{Result, Ok, Err}
use Rattle.std.specs.Result.{IfOk, OnOk}

pub if_ok : {T E : Type 0} (r : Result T E) (A : Type 0) (P Q : T → Type 0) → OnOk r A → IfOk r P
    → ((x : T) → A → P x → Q x) → IfOk r Q
if_ok (Ok x) A P Q a p go = go x a p
if_ok (Err e) A P Q a p go = tt

pub on_both : {T E : Type 0} (r : Result T E) (A B C : Type 0) → OnOk r A → OnOk r B → (A → B → C) → OnOk r C
on_both (Ok x) A B C a b go = go a b
on_both (Err e) A B C a b go = tt

pub if_ok_both : {T E : Type 0} (r : Result T E) (A B : Type 0) (P Q : T → Type 0) → OnOk r A → OnOk r B → IfOk r P
    → ((x : T) → A → B → P x → Q x) → IfOk r Q
if_ok_both (Ok x) A B P Q a b p go = go x a b p
if_ok_both (Err e) A B P Q a b p go = tt

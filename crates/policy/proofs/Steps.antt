-- Members of a document, read one after another.
use Rattle.std.proofs.Common.{◌≡◌, Bool, true, false, Option, Some, None, Result, Ok, Err, refl, ap, ◌∙◌}
use Rattle.std.specs.Prelude.{IsErrOf}
use Rattle.std.specs.Result.{IsErrAnd}
use Rattle.policy.specs.declared.form.FormFault.{FormFault}
use Rattle.policy.specs.Forms.{given, provided, passing}

-- a member that was read, and those after it
pub on : {A B : Type 0} (o : Option A) (x : A) (f : A → Option B) (r : Option B) → o ≡ Some x → f x ≡ r → given o f ≡ r
on o x f r is rest = ap (λ p. given p f) is ∙ rest

-- a member that has not the form
pub off : {A B : Type 0} (o : Option A) (f : A → Option B) → o ≡ None → given o f ≡ None
off o f is = ap (λ p. given p f) is

-- a member is read in two steps
in_two : {A B C : Type 0} (o : Option A) (f : A → Option B) (g : B → Option C) → given o (λ x. given (f x) g) ≡ given (given o f) g
in_two None f g = refl
in_two (Some x) f g = refl

-- a member that was read in two steps, and those after it
pub on_both : {A B C : Type 0} (o : Option A) (f : A → Option B) (y : B) (g : B → Option C) (r : Option C) → given o f ≡ Some y → g y ≡ r
    → given o (λ x. given (f x) g) ≡ r
on_both o f y g r is rest = in_two o f g ∙ on (given o f) y g r is rest

-- a member that has not the form at the first step or the second
pub off_both : {A B C : Type 0} (o : Option A) (f : A → Option B) (g : B → Option C) → given o f ≡ None → given o (λ x. given (f x) g) ≡ None
off_both o f g is = in_two o f g ∙ off (given o f) g is

-- a test that was passed, and what is after it
pub passed : {A : Type 0} (b : Bool) (o r : Option A) → b ≡ true → o ≡ r → provided b o ≡ r
passed b o r is rest = ap (λ c. provided c o) is ∙ rest

-- a test is part of what is read
passing_given : {A B : Type 0} (test : A → Bool) (o : Option A) (f : A → Option B) → given o (λ x. provided (test x) (f x)) ≡ given (passing test o) f
passing_given test None f = refl
passing_given test (Some x) f = elim (test x) as (λ b. provided b (f x) ≡ given (provided b (Some x)) f) [ true ↦ refl | false ↦ refl ]

-- a member that was read and passed its test
pub kept : {A B : Type 0} (test : A → Bool) (o : Option A) (x : A) (f : A → Option B) (r : Option B) → passing test o ≡ Some x → f x ≡ r
    → given o (λ y. provided (test y) (f y)) ≡ r
kept test o x f r is rest = passing_given test o f ∙ on (passing test o) x f r is rest

-- a member that has not the form, or fails its test
pub failed : {A B : Type 0} (test : A → Bool) (o : Option A) (f : A → Option B) → passing test o ≡ None → given o (λ y. provided (test y) (f y)) ≡ None
failed test o f is = passing_given test o f ∙ off (passing test o) f is

-- a fault that is passed on is that of the read
pub same_fault : {A B : Type 0} {result : Result A FormFault} {cause : Result B FormFault} {given fault : FormFault} → IsErrAnd result (λ y. y ≡ given)
    → cause ≡ Err given → IsErrOf result fault → IsErrOf cause fault
same_fault {result = Ok x} {fault = fault} passed was told = let never : ◌≡◌ {A = Result _ FormFault} (Ok x) (Err fault) = told in cc
same_fault {result = Err y} {fault = fault} passed was told = let is : ◌≡◌ {A = Result _ FormFault} (Err y) (Err fault) = told in cc

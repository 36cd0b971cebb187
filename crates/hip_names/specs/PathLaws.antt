-- The order of paths is one: that of components is total, and doesn't tell apart just what is the same.
use Rattle.std.specs.Prelude.{◌≡◌, ℕ, zero, suc, List, [], ◌∷◌, Bool, true, refl}
use Rattle.std.proofs.Common.{◌∙◌, sym, ap, subst}
use Rattle.std.specs.Cmp.{IsTotalOrder, on_total, tied_itself}
use Rattle.std.specs.Cmp.Lexicographic.{slice_cmp, bytes_decides, lists_total, lists_ties, nat_list_cmp_total, pointwise, pointwise_decides, texts_ties}
use Rattle.std.specs.Bool.{Decides}
use Rattle.std.specs.Ordering.{eq_by_cmp, is_eq, nat_cmp}
use Rattle.std.specs.declared.cmp.Ordering.TheVariants.{Equal}
use Rattle.hip_names.specs.Components.{Component, RootDir, CurDir, ParentDir, Normal, component_order, components, path_order}
use Rattle.hip_names.specs.Fed.{all_fed, path_fed}

-- a component as a list of numbers: its rank, and the bytes of a name
abbrev key : Component → List ℕ
key RootDir = 0 ∷ []
key CurDir = 1 ∷ []
key ParentDir = 2 ∷ []
key (Normal name) = 3 ∷ name

abbrev of_key : List ℕ → Component
of_key [] = RootDir
of_key (zero ∷ name) = RootDir
of_key (suc zero ∷ name) = CurDir
of_key (suc (suc zero) ∷ name) = ParentDir
of_key (suc (suc (suc n)) ∷ name) = Normal name

of_key-key : (a : Component) → of_key (key a) ≡ a
of_key-key RootDir = refl
of_key-key CurDir = refl
of_key-key ParentDir = refl
of_key-key (Normal name) = refl

component_order-key : (a b : Component) → slice_cmp nat_cmp (key a) (key b) ≡ component_order a b
component_order-key RootDir RootDir = refl
component_order-key RootDir CurDir = refl
component_order-key RootDir ParentDir = refl
component_order-key RootDir (Normal b) = refl
component_order-key CurDir RootDir = refl
component_order-key CurDir CurDir = refl
component_order-key CurDir ParentDir = refl
component_order-key CurDir (Normal b) = refl
component_order-key ParentDir RootDir = refl
component_order-key ParentDir CurDir = refl
component_order-key ParentDir ParentDir = refl
component_order-key ParentDir (Normal b) = refl
component_order-key (Normal a) RootDir = refl
component_order-key (Normal a) CurDir = refl
component_order-key (Normal a) ParentDir = refl
component_order-key (Normal a) (Normal b) = refl

pub component_order_total : IsTotalOrder component_order
component_order_total = subst IsTotalOrder (λ i a b. component_order-key a b i) (on_total key nat_list_cmp_total)

pub path_order_total : IsTotalOrder path_order
unfolding path_order
path_order_total = on_total components (lists_total component_order_total)

-- components that the order doesn't tell apart are the same
same_component : (a b : Component) → eq_by_cmp component_order a b ≡ true → a ≡ b
same_component a b e =
    sym (of_key-key a) ∙ ap of_key ((bytes_decides (key a) (key b)).0 (texts_ties (key a) (key b) ∙ ap is_eq (component_order-key a b) ∙ e)) ∙ of_key-key b

component_decides : (a b : Component) → Decides (eq_by_cmp component_order a b) (a ≡ b)
component_decides a b = (same_component a b, λ e. subst (λ (c : Component). eq_by_cmp component_order a c ≡ true) e (ap is_eq (tied_itself component_order_total a)))

lists_decide : (xs ys : List Component) → Decides (pointwise (eq_by_cmp component_order) xs ys) (xs ≡ ys)
lists_decide = pointwise_decides component_decides

-- paths that the order doesn't tell apart have the same components, and only they
pub path_order_decides : (a b : List ℕ) → Decides (eq_by_cmp path_order a b) (components a ≡ components b)
unfolding path_order
path_order_decides a b =
    subst (λ (t : Bool). Decides t (components a ≡ components b)) (lists_ties component_order (λ x y. refl) (components a) (components b)) (lists_decide (components a) (components b))

pub path_order_same : (a b : List ℕ) → a ≡ b → Equal ≡ path_order a b
path_order_same a b e = subst (λ (c : List ℕ). Equal ≡ path_order a c) e (sym (tied_itself path_order_total a))

-- paths that the order doesn't tell apart feed a hasher alike
pub path_fed_same : (a b : List ℕ) → eq_by_cmp path_order a b ≡ true → path_fed a ≡ path_fed b
unfolding path_fed
path_fed_same a b e = ap all_fed ((path_order_decides a b).0 e)

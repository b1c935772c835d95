-- Lists that have just what a map makes of another's elements.
--     mapped_map                                 the mapped list
--     mapped_append, mapped_keep, mapped_with, mapped_through
--                                                two lists together; what a test keeps; by a map that is equal on the elements; by two maps
--     mapped_sort                                an image's entries, sorted
-- Assumes nothing.
use mathlib.Core.Path.{◌≡◌, refl, sym, ap, ◌∙◌, subst}
use mathlib.Core.Bool.{Bool, true, false}
use mathlib.Core.List.Memᴰ
use mathlib.Core.List.{List, [], ◌∷◌, ◌++◌, map, Memᴰ}
use mathlib.Core.Logic.{◌⊎◌, inl, inr}
use Rattle.model.specs.declared.ImageEntry.{ImageEntry}
use Rattle.model.specs.Choice.{pick}
use Rattle.model.specs.Tables.{keep}
use Rattle.model.specs.Images.{id_before}
use Rattle.model.specs.Decisions.{insert_entry, sort_entries}
use Rattle.model_laws.specs.Bytes.{All}
use Rattle.model_laws.proofs.Tables.{all_member}
use Rattle.model_invariants.proofs.Images.{sort_all}
use Rattle.proof_protocol.proofs.Basics.{keep_in, keep_out, map_in, map-out}
use Rattle.proof_records.specs.Likeness.{Mapped}

module _ {A B : Type 0} (f : A → B) where
  pub mapped_map : (xs : List A) → Mapped f xs (map f xs)
  mapped_map xs = record { to = λ x m. map_in f x xs m; back = λ y m. map-out f y xs m }

  pub mapped_append : {xs us : List A} {ys vs : List B} → Mapped f xs ys → Mapped f us vs → Mapped f (xs ++ us) (ys ++ vs)
  mapped_append {xs} {us} {ys} {vs} l r = record { to = λ x m. to x (Memᴰ.append_cases xs m); back = λ y m. back y (Memᴰ.append_cases ys m) }
    where
      to : (x : A) → Memᴰ x xs ⊎ Memᴰ x us → Memᴰ (f x) (ys ++ vs)
      to x (inl m) = Memᴰ.append_left _ (l.to x m)
      to x (inr m) = Memᴰ.append_right ys (r.to x m)

      back : (y : B) → Memᴰ y ys ⊎ Memᴰ y vs → (x : A) × Memᴰ x (xs ++ us) × (y ≡ f x)
      back y (inl m) = let b = l.back y m in (b.0, Memᴰ.append_left _ b.1, b.2)
      back y (inr m) = let b = r.back y m in (b.0, Memᴰ.append_right xs b.1, b.2)

  pub mapped_keep : (t : B → Bool) (u : A → Bool) → ((x : A) → t (f x) ≡ u x) → {xs : List A} {ys : List B} → Mapped f xs ys → Mapped f (keep u xs) (keep t ys)
  mapped_keep t u h {xs} {ys} l =
      record {
        to = λ x m. let k = keep_out u x xs m in keep_in t (f x) ys (l.to x k.0) (h x ∙ k.1);
        back =
            λ y m.
            let k = keep_out t y ys m in
            let b = l.back y k.0 in
            (b.0, keep_in u b.0 xs b.1 (sym (h b.0) ∙ (ap t (sym b.2) ∙ k.1)), b.2);
      }

  pub mapped_with : (g : A → B) {xs : List A} {ys : List B} → ((x : A) → Memᴰ x xs → f x ≡ g x) → Mapped f xs ys → Mapped g xs ys
  mapped_with g {xs} {ys} h l =
      record {
        to = λ x m. subst (λ (y : B). Memᴰ y ys) (h x m) (l.to x m);
        back = λ y m. let b = l.back y m in (b.0, b.1, b.2 ∙ h b.0 b.1);
      }

pub mapped_through : {A B C : Type 0} (f : A → B) (g : B → C) {xs : List A} {zs : List C} → Mapped (λ (x : A). g (f x)) xs zs → Mapped g (map f xs) zs
mapped_through {C = C} f g {xs} {zs} l =
    record {
      to = λ y m. let b = map-out f y xs m in subst (λ (z : C). Memᴰ z zs) (ap g (sym b.2)) (l.to b.0 b.1);
      back = λ z m. let b = l.back z m in (f b.0, map_in f b.0 xs b.1, b.2);
    }

-- ---- an image's entries

insert_in : (x e : ImageEntry) (es : List ImageEntry) → Memᴰ x (e ∷ es) → Memᴰ x (insert_entry e es)
unfolding insert_entry
insert_in x e [] m = m
insert_in x e (f ∷ es) m = go (id_before e.client e.call f.client f.call) m (insert_in x e es)
  where
    go : (b : Bool) → Memᴰ x (e ∷ (f ∷ es)) → (Memᴰ x (e ∷ es) → Memᴰ x (insert_entry e es)) → Memᴰ x (pick b (e ∷ (f ∷ es)) (f ∷ insert_entry e es))
    go true k ih = k
    go false (Memᴰ.head q) ih = Memᴰ.tail (ih (Memᴰ.head q))
    go false (Memᴰ.tail (Memᴰ.head q)) ih = Memᴰ.head q
    go false (Memᴰ.tail (Memᴰ.tail k)) ih = Memᴰ.tail (ih (Memᴰ.tail k))

sort_in : (x : ImageEntry) (es : List ImageEntry) → Memᴰ x es → Memᴰ x (sort_entries es)
unfolding sort_entries
sort_in x (e ∷ es) (Memᴰ.head q) = insert_in x e (sort_entries es) (Memᴰ.head q)
sort_in x (e ∷ es) (Memᴰ.tail m) = insert_in x e (sort_entries es) (Memᴰ.tail (sort_in x es m))
sort_in x [] m = elim m [ ]

all_from : {A : Type 0} (P : A → Type 0) (xs : List A) → ((x : A) → Memᴰ x xs → P x) → All P xs
all_from P [] h = tt
all_from P (x ∷ xs) h = (h x (Memᴰ.head refl), all_from P xs (λ y m. h y (Memᴰ.tail m)))

pub mapped_sort : {B : Type 0} (f : ImageEntry → B) {es : List ImageEntry} {ys : List B} → Mapped f es ys → Mapped f (sort_entries es) ys
mapped_sort {B} f {es} {ys} l =
    let P : ImageEntry → Type 0 = λ (e : ImageEntry). Memᴰ (f e) ys in
    record {
      to = λ x m. all_member P (sort_all P es (all_from P es l.to)) m;
      back = λ y m. let b = l.back y m in (b.0, sort_in b.0 es b.1, b.2);
    }

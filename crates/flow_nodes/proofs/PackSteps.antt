-- Packs, once a group or a name is written.
use Rattle.std.proofs.Common.{◌≡◌, ◌≢◌, ℕ, ◌+◌, ◌*◌, ◌<◌, List, [], ◌∷◌, ◌++◌, length, slice_index, slice_index_or}
use Rattle.std.proofs.Common.{set, take, drop, append_assoc, ap, sym, ◌∙◌, subst, inl, inr, arith}
use Rattle.std.specs.Global.{Vec}
use Rattle.std.proofs.lemmas.Bool.{cases_eq}
use Rattle.std.proofs.lemmas.List.{get_or-set_same, get_or-set_other, length-set, take_more_set}
use Rattle.flow_shop.specs.Shop.{Shop}
use Rattle.flow_nodes.specs.Nodes.{IsJob}
use Rattle.flow_nodes.specs.Groups.{IsGroup}
use Rattle.flow_nodes.specs.Packs.{HasByteRoom, HasRoom}
use Rattle.flow_nodes.specs.declared.pack.Pack.{Pack}

-- a group is written
module _ {V : Type 0} (shop : Shop) (groups : List (Vec V)) (group : ℕ) (vector : Vec V)
    (within : group < length groups) where
  -- a fact about each group
  pub group-each : (P : ℕ → Vec V → Type 0) → P group vector → (place : ℕ) (none : Vec V) →
      (place ≢ group → P place (slice_index_or groups place none)) →
      P place (slice_index_or (set groups group vector) place none)
  group-each P here place none other = elim (cases_eq place group) [
    | inl same ↦
        let there : slice_index_or (set groups group vector) place none ≡ vector =
        ap (λ p. slice_index_or (set groups group vector) p none) same
        ∙ get_or-set_same groups group vector none within in
        subst (P place) (sym there) (subst (λ p. P p vector) (sym same) here)
    | inr apart ↦
        subst (P place) (sym (get_or-set_other groups group place vector none apart)) (other apart)
  ]

  pub room-grouped : (pack new : Pack V) → HasRoom shop pack → pack.groups.items ≡ groups →
      new.names ≡ pack.names → new.groups.items ≡ set groups group vector → length vector.items ≡ shop.machines →
      HasRoom shop new
  room-grouped pack new room old names_are groups_are machines =
      let count : length new.groups.items ≡ length pack.groups.items =
      ap length groups_are ∙ length-set groups group vector ∙ sym (ap length old) in
      record {
        few = omega (arith, count, room.few);
        names = omega (arith, count, room.names, ap (λ n. length n.items) names_are);
        jobs = λ place low.
            subst (λ n. IsJob shop (slice_index n.items place)) (sym names_are)
            (room.jobs place (omega (arith, low, ap (λ n. length n.items) names_are)));
        machines = λ place none low.
            ap (λ gs. length (slice_index_or gs place none).items) groups_are
            ∙ group-each (λ p v. length v.items ≡ shop.machines) machines place none
            (λ apart. ap (λ gs. length (slice_index_or gs place none).items) (sym old)
            ∙ room.machines place none (omega (arith, low, count)));
      }

  -- the groups so far, and the one that is written
  pub groups-more : (list : V → List ℕ) (cap width : ℕ) (names : List ℕ) →
      ((place : ℕ) (none : Vec V) → place < group →
      IsGroup list cap width shop (take 16 (drop (place * 16) names)) (slice_index_or groups place none).items) →
      IsGroup list cap width shop (take 16 (drop (group * 16) names)) vector.items →
      (place : ℕ) (none : Vec V) → place < group + 1 →
      IsGroup list cap width shop (take 16 (drop (place * 16) names))
      (slice_index_or (set groups group vector) place none).items
  groups-more list cap width names before here place none low =
      group-each (λ p v. IsGroup list cap width shop (take 16 (drop (p * 16) names)) v.items) here place none
      (λ apart. before place none (omega (arith, apart, low)))

-- a name is written
pub room-named : {V : Type 0} (shop : Shop) (pack new : Pack V) (place job : ℕ) → HasRoom shop pack →
    new.groups ≡ pack.groups → new.names.items ≡ set pack.names.items place job → place < length pack.names.items →
    IsJob shop job → HasRoom shop new
room-named shop pack new place job room groups_are names_are within is_job =
    let count : length new.groups.items ≡ length pack.groups.items = ap (λ v. length v.items) groups_are in
    let size : length new.names.items ≡ length pack.names.items =
    ap length names_are ∙ length-set pack.names.items place job in
    record {
      few = omega (arith, count, room.few);
      names = omega (arith, count, size, room.names);
      jobs = λ other low. elim (cases_eq other place) [
        | inl same ↦
            let there : slice_index new.names.items other ≡ job =
            ap (λ l. slice_index l other) names_are
            ∙ ap (slice_index (set pack.names.items place job)) same
            ∙ get_or-set_same pack.names.items place job 0 within in
            subst (IsJob shop) (sym there) is_job
        | inr apart ↦
            let there : slice_index new.names.items other ≡ slice_index pack.names.items other =
            ap (λ l. slice_index l other) names_are ∙ get_or-set_other pack.names.items place other job 0 apart in
            subst (IsJob shop) (sym there) (room.jobs other (omega (arith, low, size)))
      ];
      machines = λ group none low.
          ap (λ v. length (slice_index_or v.items group none).items) groups_are
          ∙ room.machines group none (omega (arith, low, count));
    }

-- one more job is put behind those so far
pub put-more : (names old new all : List ℕ) (count job : ℕ) → count < length names → old ≡ job ∷ new →
    take count names ++ old ≡ all → take (count + 1) (set names count job) ++ new ≡ all
put-more names old new all count job within first is =
    ap (λ l. l ++ new) (take_more_set names count job within)
    ∙ append_assoc (take count names) (job ∷ []) new
    ∙ ap (λ l. take count names ++ l) (sym first) ∙ is

-- the room for bytes stays
pub byte-room-same : {V : Type 0} (shop : Shop) (pack new : Pack V) → HasByteRoom shop pack →
    new.bytes ≡ pack.bytes → length new.groups.items ≡ length pack.groups.items → HasByteRoom shop new
byte-room-same shop pack new room bytes_are count = record {
  few = omega (arith, ap (λ v. length v.items) bytes_are, count, room.few);
  machines = λ group none low.
      ap (λ v. length (slice_index_or v.items group none).items) bytes_are
      ∙ room.machines group none (omega (arith, low, ap (λ v. length v.items) bytes_are));
}

-- A group is refused exactly for its first fault, and read exactly as it stands in its log; and so says a step.
use Rattle.std.proofs.Common.{◌≡◌, ℕ, suc, ◌+◌, ◌*◌, ◌<◌, ◌≤◌, Bool, true, false, cond, ◌&&◌, ltb, leb, List, [], ◌∷◌, ◌++◌, map, length, get_or, drop, Some, None, Ok, Err, Option, Result, sym, refl, ap, ◌∙◌, subst, Fits, w8, arith}
use Rattle.std.specs.List.{AllByRecursion}
use Rattle.std.proofs.lemmas.List.{length-map}
use Rattle.std.proofs.lemmas.Bool.{and_from, and_parts, lt-ltb, lt-leb, le-leb, leb-true, leb-false, cond-true, cond-false}
use Rattle.cores.specs.declared.interface.Request.{Request}
use Rattle.cores.specs.Acting.{within as cells_within}
use Rattle.cores.specs.Memory.{able}
use Rattle.records.specs.declared.format.Source.{Source}
use Rattle.records.specs.declared.reading.SavedPlace.{SavedPlace}
use Rattle.records.specs.declared.settings.Heading.{Heading}
use Rattle.records.specs.declared.settings.Sizes.{Sizes}
use Rattle.records.specs.Faults.{Fault, bad_setting, log_fault}
use Rattle.records.specs.Format.{LogArc}
use Rattle.records.specs.Settings.{fits, log_of, heading_of, settled}
use Rattle.logs.specs.Lawful.{Within}
use Rattle.logs.proofs.Bytes.{octets_take, octets_drop}
use Rattle.logs.proofs.Sessions.{bytes_octets}
use Rattle.replayer.specs.declared.group.Group.{Group}
use Rattle.replayer.specs.declared.replay.Replayer.{Replayer}
use Rattle.replayer.specs.Answers.{wait_numbers}
use Rattle.replayer.specs.Damaged.{HasLeft, ReadAhead, StepExactly, StepsNameFirstFaults}
use Rattle.replayer.specs.GroupFaults.{behind, GroupBroken, FirstWait, all_done, first_waits, GroupRead, GroupExactly, GroupsReadExactly}
use Rattle.replayer.specs.Groups.{Grouped, group_at, source_of, waits_for, held_up, read_group}
use Rattle.replayer.specs.Steps.{behind_head, Outcome, ahead, freed, passed, cleared, refused, acted, gone, stepped}
use Rattle.replayer.proofs.GroupFaults.{Groups, grouped, faulted, groups, read_there, broken_there}

-- what is waited for is the first source that is not done
module _ (done : List ℕ) where
  one_done : (a : LogArc) (more : List LogArc) → a.count ≤ get_or done a.source 0 → (w : Option Source) → FirstWait done more w → FirstWait done (a ∷ more) w
  one_done a more h w (all_done all) = all_done (h, all)
  one_done a more h w (first_waits front b back split all n) = first_waits (a ∷ front) b back (ap (λ x. a ∷ x) split) (h, all) n

  pub first_wait : (arcs : List LogArc) → FirstWait done arcs (waits_for done arcs)
  first_wait [] = all_done tt
  first_wait (a ∷ more) = go (leb a.count (get_or done a.source 0)) refl (first_wait more)
    where
      go : (b : Bool) → leb a.count (get_or done a.source 0) ≡ b → FirstWait done more (waits_for done more) → FirstWait done (a ∷ more) (cond b (waits_for done more) (Some (source_of a)))
      go true t rest = one_done a more (leb-true a.count (get_or done a.source 0) t) (waits_for done more) rest
      go false t rest = first_waits [] a more refl tt (let h = leb-false a.count (get_or done a.source 0) t in omega (arith, h))

  waits_behind : (front : List LogArc) (a : LogArc) (more : List LogArc) → Within done front → get_or done a.source 0 < a.count → waits_for done (front ++ (a ∷ more)) ≡ Some (source_of a)
  waits_behind [] a more all n = cond-false _ _ _ (lt-leb a.count (get_or done a.source 0) n)
  waits_behind (b ∷ front) a more all n = cond-true _ _ _ (le-leb b.count (get_or done b.source 0) all.0) ∙ waits_behind front a more all.1 n

  none_waits : (arcs : List LogArc) → Within done arcs → waits_for done arcs ≡ None
  none_waits [] all = refl
  none_waits (a ∷ more) all = cond-true _ _ _ (le-leb a.count (get_or done a.source 0) all.0) ∙ none_waits more all.1

  pub wait_is : (arcs : List LogArc) (w : Option Source) → FirstWait done arcs w → waits_for done arcs ≡ w
  wait_is arcs w (all_done all) = none_waits arcs all
  wait_is arcs w (first_waits front a more split all n) = ap (waits_for done) split ∙ waits_behind front a more all n

-- the numbers of a fault tell it from others
same_fault : (d f : Fault) → ◌≡◌ {A = Result Group (List ℕ)} (Err (log_fault d)) (Err (log_fault f)) → d ≡ f
same_fault d f q =
    let a : d.layer ≡ f.layer = cc in
    let b : d.core ≡ f.core = cc in
    let c : d.offset ≡ f.offset = cc in
    let e : d.cause ≡ f.cause = cc in
    λ i. record { layer = a i; core = b i; offset = c i; cause = e i }

module _ (counts done : List ℕ) (g : Heading) (log : List ℕ) (octets : AllByRecursion (λ b. b < 256) log) (t : ℕ) (p : SavedPlace) where
  abbrev whole : Result Group (List ℕ)
  whole = held_up done None (group_at counts g log t p)

  abbrev Broken : Fault → Type 0
  Broken f = GroupBroken counts g log t p f

  abbrev Read : Group → Type 0
  Read x = GroupRead counts g log t p done x

  broken_of : (x : Result Grouped Fault) → Groups counts g log octets t p x → (f : Fault) → held_up done None x ≡ Err (log_fault f) → Broken f
  broken_of x (grouped arcs rest h e) f q = absurd cc
  broken_of x (faulted d b) f q = subst Broken (same_fault d f q) b

  read_of : (x : Result Grouped Fault) → Groups counts g log octets t p x → (y : Group) → held_up done None x ≡ Ok y → Read y
  read_of x (grouped arcs rest h e) y q =
      let z : ◌≡◌ {A = Group} (record { place = behind p arcs; waits = waits_for done arcs }) y = cc in
      subst Read z (record { arcs = arcs; rest = rest; there = h; ends = e; place = refl; waits = first_wait done arcs })
  read_of x (faulted d b) y q = absurd cc

  pub to_broken : (f : Fault) → whole ≡ Err (log_fault f) → Broken f
  unfolding group_at
  to_broken f q = broken_of _ (groups counts g log octets t (suc (length log)) p (omega arith)) f q

  pub from_broken : (f : Fault) → Broken f → whole ≡ Err (log_fault f)
  unfolding group_at
  from_broken f b = ap (held_up done None) (broken_there counts g log octets t (suc (length log)) p (omega arith) f b)

  pub to_read : (x : Group) → whole ≡ Ok x → Read x
  unfolding group_at
  to_read x q = read_of _ (groups counts g log octets t (suc (length log)) p (omega arith)) x q

  pub from_read : (x : Group) → Read x → whole ≡ Ok x
  unfolding group_at
  from_read x r =
      ap (held_up done None) (read_there counts g log octets t (suc (length log)) p (omega arith) r.arcs r.rest r.there r.ends)
      ∙ (λ i. Ok (record { place = sym r.place i; waits = wait_is done r.arcs x.waits r.waits i }))

pub log_octets : (store : List ℕ) (z : Sizes) (j : ℕ) → AllByRecursion (λ b. b < 256) store → AllByRecursion (λ b. b < 256) (log_of store z j)
log_octets store z j octets = octets_take z.log_bytes (drop (j * z.log_bytes) store) (octets_drop (j * z.log_bytes) store octets)

-- a group that is read or refused for its bytes is not refused for its sizes
fits_says : (done : List ℕ) (x : Result Grouped Fault) → held_up done None x ≡ Err bad_setting → ⊥
fits_says done (Ok x) q = absurd cc
fits_says done (Err f) q = let z : ◌≡◌ {A = ℕ} 9 8 = cc in absurd (omega (arith, z))

unfit_says : (f : Fault) → ◌≡◌ {A = Result Group (List ℕ)} (Err bad_setting) (Err (log_fault f)) → ⊥
unfit_says f q = let z : ◌≡◌ {A = ℕ} 8 9 = cc in absurd (omega (arith, z))

pub groups_read_exactly : GroupsReadExactly
unfolding read_group
groups_read_exactly store z j p counts done octets = go (fits (length store) z && ltb j z.cores) refl
  where
    g : Heading
    g = heading_of z j

    log : List ℕ
    log = log_of store z j

    t : ℕ
    t = get_or done j 0 + 1

    small : AllByRecursion (λ b. b < 256) log
    small = log_octets store z j octets

    go : (b : Bool) → (fits (length store) z && ltb j z.cores) ≡ b → GroupExactly store z j p counts done (cond b (held_up done None (group_at counts g log t p)) (Err bad_setting))
    go true q = record {
      faulty = λ f. ((λ s. (q, to_broken counts done g log small t p f s)), (λ h. from_broken counts done g log small t p f h.1));
      read = λ x. ((λ s. (q, to_read counts done g log small t p x s)), (λ h. from_read counts done g log small t p x h.1));
      unfit = ((λ s. absurd (fits_says done (group_at counts g log t p) s)), (λ n. let b : true ≡ false = sym q ∙ n in absurd cc));
    }
    go false q = record {
      faulty = λ f. ((λ s. absurd (unfit_says f s)), (λ h. let b : true ≡ false = sym h.0 ∙ q in absurd cc));
      read = λ x. ((λ s. absurd cc), (λ h. let b : true ≡ false = sym h.0 ∙ q in absurd cc));
      unfit = ((λ _. q), (λ _. refl));
    }

-- an answer that is the definition's, over a slice of bytes
pub group_says_exactly : (store : List ℕ) (z : Sizes) (j : ℕ) (p : SavedPlace) (counts done : List ℕ) (says : Result Group (List ℕ)) → ((i : ℕ) → Fits w8 (get_or store i 0)) →
    says ≡ read_group store z j p counts done → GroupExactly store z j p counts done says
group_says_exactly store z j p counts done says fits q =
    subst (GroupExactly store z j p counts done) (sym q) (groups_read_exactly store z j p counts done (bytes_octets store fits))

-- a refused group says no number but 8 and 9
refused_says : (b : Bool) (done : List ℕ) (x : Result Grouped Fault) (k : ℕ) (says more : List ℕ) → says ≡ k ∷ more → (k ≡ 8 → ⊥) → (k ≡ 9 → ⊥) →
    cond b (held_up done None x) (Err bad_setting) ≡ Err says → ⊥
refused_says true done (Ok x) k says more e n₁ n₂ q = absurd cc
refused_says true done (Err f) k says more e n₁ n₂ q = let z : k ≡ 9 = cc in n₂ z
refused_says false done x k says more e n₁ n₂ q = let z : k ≡ 8 = cc in n₁ z

-- a step
module _
    (next : List ℕ → List ℕ → Request) (after : List ℕ → List ℕ → ℕ → List ℕ)
    (text : List ℕ) (R : Replayer) (cells : List ℕ) (states : List (List ℕ)) (j : ℕ)
  where
    abbrev goes : Result Group (List ℕ) → Outcome
    goes x = gone next after text R cells states j (passed x)

    -- where nothing is waited for it says 0, 2 or 4
    asks_says : (request : Request) (a b : Bool) (place : SavedPlace) (k : ℕ) (more : List ℕ) →
        (cond a (acted next after text R cells states j place request) (cond b (refused next after text R cells states (2 ∷ [])) (refused next after text R cells states (4 ∷ [])))).says ≡ k ∷ more →
        k ≤ 4
    asks_says request true b place k more q = let z : ◌≡◌ {A = ℕ} 0 k = cc in omega (arith, z)
    asks_says request false true place k more q = let z : ◌≡◌ {A = ℕ} 2 k = cc in omega (arith, z)
    asks_says request false false place k more q = let z : ◌≡◌ {A = ℕ} 4 k = cc in omega (arith, z)

    free_says : (place : SavedPlace) (k : ℕ) (more : List ℕ) → (gone next after text R cells states j (Ok place)).says ≡ k ∷ more → k ≤ 4
    free_says place k more q =
        let request = next text (get_or states j []) in
        asks_says request (able request R.sizes.cells) (cells_within request R.sizes.cells) place k more q

    -- it names a fault only for a refused group, and waits only for what a group waits for
    fault_says : (x : Result Group (List ℕ)) (f : Fault) → (goes x).says ≡ log_fault f → x ≡ Err (log_fault f)
    fault_says (Err says) f q = ap Err q
    fault_says (Ok x) f q = absurd (of_wait x.waits q)
      where
        of_wait : (w : Option Source) → (gone next after text R cells states j (freed w x.place)).says ≡ log_fault f → ⊥
        of_wait (Some s) q = let z : ◌≡◌ {A = ℕ} 6 9 = cc in absurd (omega (arith, z))
        of_wait None q = let h = free_says x.place 9 _ q in omega (arith, h)

    wait_says : (x : Result Group (List ℕ)) (s : Source) → ((says : List ℕ) → x ≡ Err says → says ≡ wait_numbers s → ⊥) → (goes x).says ≡ wait_numbers s →
        (y : Group) × (x ≡ Ok y) × (y.waits ≡ Some s)
    wait_says (Err says) s never q = absurd (never says refl q)
    wait_says (Ok x) s never q = (x, refl, of_wait x.waits q)
      where
        of_wait : (w : Option Source) → (gone next after text R cells states j (freed w x.place)).says ≡ wait_numbers s → w ≡ Some s
        of_wait (Some r) q =
            let core : r.core ≡ s.core = cc in
            let count : r.count ≡ s.count = cc in
            λ i. Some (record { core = core i; count = count i })
        of_wait None q = let h = free_says x.place 6 _ q in absurd (omega (arith, h))

    module _ (store : List ℕ) where
      abbrev Left : Type 0
      Left = HasLeft R (length states) (length cells) (length store) j

      abbrev read : Result Group (List ℕ)
      read = ahead R store j

      -- a core with an instruction left reads its group
      reads : Left → stepped next after text R cells states store j ≡ goes read
      unfolding stepped cleared
      reads h =
          ap (gone next after text R cells states j) (cond-true _ _ _ h.settled ∙ cond-false _ _ _ (lt-leb R.sizes.cores j h.known)
          ∙ cond-false _ _ _ (lt-leb (get_or R.counts j 0) (get_or R.done j 0) h.left))

      -- and others say 8, 1 or 7
      has_left : (k : ℕ) (more : List ℕ) → (k ≡ 8 → ⊥) → (k ≡ 1 → ⊥) → (k ≡ 7 → ⊥) → (stepped next after text R cells states store j).says ≡ k ∷ more → Left
      unfolding stepped cleared
      has_left k more n₁ n₂ n₃ q =
          by_tests (settled R.sizes (length states) (length cells) (length store)) refl (leb R.sizes.cores j) refl (leb (get_or R.counts j 0) (get_or R.done j 0)) refl q
        where
          by_tests : (b₁ : Bool) → settled R.sizes (length states) (length cells) (length store) ≡ b₁ → (b₂ : Bool) → leb R.sizes.cores j ≡ b₂ →
              (b₃ : Bool) → leb (get_or R.counts j 0) (get_or R.done j 0) ≡ b₃ →
              (gone next after text R cells states j (cond b₁ (cond b₂ (Err (1 ∷ [])) (cond b₃ (Err (7 ∷ [])) (passed read))) (Err bad_setting))).says ≡ k ∷ more → Left
          by_tests false t₁ b₂ t₂ b₃ t₃ q = absurd (let z : k ≡ 8 = cc in n₁ z)
          by_tests true t₁ true t₂ b₃ t₃ q = absurd (let z : k ≡ 1 = cc in n₂ z)
          by_tests true t₁ false t₂ true t₃ q = absurd (let z : k ≡ 7 = cc in n₃ z)
          by_tests true t₁ false t₂ false t₃ q = record {
            settled = t₁;
            known = leb-false R.sizes.cores j t₂;
            left = leb-false (get_or R.counts j 0) (get_or R.done j 0) t₃;
          }

      inside : Left → (fits (length store) R.sizes && ltb j R.sizes.cores) ≡ true
      inside h = and_from (fits (length store) R.sizes) (ltb j R.sizes.cores) (and_parts (fits (length store) R.sizes) _ h.settled).0 (lt-ltb j R.sizes.cores h.known)

      never_waits : (s : Source) (says : List ℕ) → read ≡ Err says → says ≡ wait_numbers s → ⊥
      unfolding read_group
      never_waits s says q e = refused_says (fits (length store) R.sizes && ltb j R.sizes.cores) R.done _ 6 says _ e (λ z. omega (arith, z)) (λ z. omega (arith, z)) q

      module _ (octets : AllByRecursion (λ b. b < 256) store) where
        exact : GroupExactly store R.sizes j (get_or R.places j behind_head) R.counts R.done read
        exact = groups_read_exactly store R.sizes j (get_or R.places j behind_head) R.counts R.done octets

        goes_on : (x : Group) → Left → ReadAhead R store j x → stepped next after text R cells states store j ≡ gone next after text R cells states j (freed x.waits x.place)
        goes_on x h r = reads h ∙ ap goes ((exact.read x).1 (inside h, r))

        step_exactly : StepExactly R (length states) (length cells) store j (stepped next after text R cells states store j).says
        step_exactly = record {
          faulty = λ f. (
            (λ q.
                let h = has_left 9 _ (λ z. omega (arith, z)) (λ z. omega (arith, z)) (λ z. omega (arith, z)) q in
                (h, ((exact.faulty f).0 (fault_says read f (sym (ap (λ o. o.says) (reads h)) ∙ q))).1)),
            (λ b. ap (λ o. o.says) (reads b.0 ∙ ap goes ((exact.faulty f).1 (inside b.0, b.1)))),
          );
          waits = λ s. (
            (λ q.
                let h = has_left 6 _ (λ z. omega (arith, z)) (λ z. omega (arith, z)) (λ z. omega (arith, z)) q in
                let w = wait_says read s (never_waits s) (sym (ap (λ o. o.says) (reads h)) ∙ q) in
                (h, (w.0, ((exact.read w.0).0 w.1).1, w.2))),
            (λ b. ap (λ o. o.says) (goes_on b.1.0 b.0 b.1.1 ∙ ap (λ w. gone next after text R cells states j (freed w b.1.0.place)) b.1.2)),
          );
        }

pub steps_name_first_faults : StepsNameFirstFaults
steps_name_first_faults next after text R cells states store j octets =
    (step_exactly next after text R cells states j store octets, goes_on next after text R cells states j store octets)

-- an answer that is the definition's, over a slice of bytes
pub step_says_exactly : {K : Type 0} (state : K → List ℕ) (next : List ℕ → List ℕ → Request) (after : List ℕ → List ℕ → ℕ → List ℕ) (text : List ℕ) (R : Replayer) (cells : List ℕ) (cores : List K) (store : List ℕ) (j : ℕ) (says : List ℕ) →
    ((i : ℕ) → Fits w8 (get_or store i 0)) → says ≡ (stepped next after text R cells (map state cores) store j).says →
    StepExactly R (length cores) (length cells) store j says
step_says_exactly state next after text R cells cores store j says fits q =
    subst (StepExactly R (length cores) (length cells) store j) (sym q)
    (subst (λ n. StepExactly R n (length cells) store j (stepped next after text R cells (map state cores) store j).says) (length-map cores state)
    (step_exactly next after text R cells (map state cores) j store (bytes_octets store fits)))

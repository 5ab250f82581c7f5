-- The numbers of a directory fit their fields, and so does what is answered there.
use Rattle.std.proofs.Common.{◌≡◌, ◌≢◌, ℕ, ◌+◌, ◌-◌, ◌^◌, ◌<◌, ◌==◌, Bool, true, false, cond, not, ◌||◌, if◌then◌else◌}
use Rattle.std.proofs.Common.{T, Option, Some, None, option_map, Result, Ok, Err, List, [], ◌∷◌, refl, ap, sym, ◌∙◌, subst, arith}
use Rattle.std.specs.Prelude.{bit_and, bit_or, nat_le}
use Rattle.std.specs.List as list
use Rattle.std.specs.declared.cmp.Ordering.{Ordering}
use Rattle.std.specs.declared.cmp.Ordering.TheVariants.{Less, Equal, Greater}
use Rattle.std.specs.Ordering.{eq_by_cmp, is_eq, is_lt, nat_cmp, ordering_reverse}
use Rattle.std.specs.Cmp.{tied_itself, alike_right, first_so, second_so, Equal-is}
use Rattle.std.specs.FinMap.{FinMap, get, find, entries, entries_sorted, get-entries, is_sorted, insert, remove, get-insert, get-remove}
use Rattle.std.specs.FinMap.{contains_key, len, nat_cmp-IsAntisymmetric}
use Rattle.std.specs.FinMap.Entries.{below_all}
use Rattle.std.proofs.lemmas.Bool.{eqb-false}
use Rattle.std.proofs.lemmas.Cmp.{nat_cmp_total}
use Rattle.std.proofs.lemmas.Nat.{and_le_r}
use Rattle.std.specs.Int.Bits.{or_add_and}
use Rattle.fl_dir.specs.declared.node.Node.{Node}
use Rattle.fl_dir.specs.Changes.{changed_at, set_at, counted_up, counted_down, without_link, swept, swept_node, looked_up}
use Rattle.fl_dir.specs.Changes.{after_lookup, after_create, after_make, after_mkdir, after_mknod, after_open, after_unlink, after_forget}
use Rattle.fl_dir.specs.Changes.{after_close, unlinked}
use Rattle.fl_dir.specs.Directory.{Listing, attributes, attributes_at, file_mode, folder_mode, is_folder, is_folder_at, is_known, is_named, is_regular}
use Rattle.fl_dir.specs.Directory.{is_reserved, linked, made_node, mknod_mode, nodes_full, root_attributes}
use Rattle.fl_dir.specs.OpenFiles.{files_full, lives, without_file}
use Rattle.fl_dir.specs.Replies.{directory_error, making_error, found_reply, lookup_reply, created_or_reopened, create_reply, open_reply}
use Rattle.fl_dir.specs.Replies.{if_free, made, make_reply, mkdir_reply, mknod_reply, lookups_full, attr_reply, getattr_reply, removed_reply}
use Rattle.fl_dir.specs.Replies.{rmdir_reply, unlink_reply, unlinked_reply, unless_error}
use Rattle.fl_order.specs.Sayable.{FitsAttr, FitsAnswer, FitsResult, FitsTold}
use Rattle.fl_order.specs.declared.errno.Errno.{Errno}
use Rattle.fl_order.specs.declared.errno.Errno.TheVariants.{EPERM}
use Rattle.fl_order.specs.declared.told.Answer.{Answer}
use Rattle.fl_order.specs.declared.told.Answer.TheVariants.{Done, Entry, Attr as Attributes, Open, Made, Lock}
use Rattle.fl_order.specs.declared.told.Told.{Told}

-- ---- answers, with room for one number more where a number is given out

abbrev pub SitsAnswer : Answer → Type 0
SitsAnswer Done = Unit {0}
SitsAnswer (Entry attr) = FitsAttr attr × (attr.node + 1 < 2 ^ 64)
SitsAnswer (Attributes attr) = FitsAttr attr
SitsAnswer (Open fh) = fh + 1 < 2 ^ 64
SitsAnswer (Made attr fh) = FitsAttr attr × (attr.node + 1 < 2 ^ 64) × (fh + 1 < 2 ^ 64)
SitsAnswer (Lock start end kind pid) = (start < 2 ^ 64) × (end < 2 ^ 64) × (kind < 2 ^ 32) × (pid < 2 ^ 32)

abbrev pub SitsResult : Result Answer Errno → Type 0
SitsResult (Ok answer) = SitsAnswer answer
SitsResult (Err e) = Unit {0}

pub record SitsTold (told : Told) : Type 0 where
  pub unique : told.unique < 2 ^ 64
  pub result : SitsResult told.result

fits_answer : (answer : Answer) → SitsAnswer answer → FitsAnswer answer
fits_answer Done s = tt
fits_answer (Entry attr) s = s.0
fits_answer (Attributes attr) s = s
fits_answer (Open fh) s = omega arith
fits_answer (Made attr fh) s = (s.0, let more = s.2 in omega arith)
fits_answer (Lock start end kind pid) s = s

fits_result : (result : Result Answer Errno) → SitsResult result → FitsResult result
fits_result (Ok answer) s = fits_answer answer s
fits_result (Err e) s = tt

pub fits_told : (told : Told) → SitsTold told → FitsTold told
fits_told told s = record { unique = s.unique; result = fits_result told.result s.result }

pub sits_if : (b : Bool) (x y : Result Answer Errno) → (b ≡ true → SitsResult x) → (b ≡ false → SitsResult y)
    → SitsResult (if b then x else y)
sits_if true x y first other = first refl
sits_if false x y first other = other refl

pub sits_unless : (e : Option Errno) (reply : Result Answer Errno) → SitsResult reply → SitsResult (unless_error e reply)
sits_unless None reply s = s
sits_unless (Some e) reply s = tt

-- ---- entries of a map

less_not_equal : (o : Ordering) → o ≡ Less → is_eq (ordering_reverse o) ≡ false
less_not_equal Less e = refl
less_not_equal Equal e = absurd (cc e)
less_not_equal Greater e = absurd (cc e)

is_Less : (o : Ordering) → is_lt o ≡ true → o ≡ Less
is_Less Less e = refl
is_Less Equal e = absurd (cc e)
is_Less Greater e = absurd (cc e)

truth : (b : Bool) → T b → b ≡ true
truth true t = refl
truth false t = absurd t

module _ {X : Type 0} where
  found_above : (x q : ℕ) (v : X) (es : List (ℕ × X)) → below_all nat_cmp x es ≡ true → find nat_cmp q es ≡ Some v
      → nat_cmp x q ≡ Less
  found_above x q v [] below found = absurd (cc found)
  found_above x q v (e ∷ es) below found =
      go (found_above x q v es (second_so (is_lt (nat_cmp x e.0)) (below_all nat_cmp x es) below)) (eq_by_cmp nat_cmp q e.0) refl found
    where
      go : (find nat_cmp q es ≡ Some v → nat_cmp x q ≡ Less) → (b : Bool) → eq_by_cmp nat_cmp q e.0 ≡ b
          → cond b (Some e.1) (find nat_cmp q es) ≡ Some v → nat_cmp x q ≡ Less
      go later true is h =
          alike_right nat_cmp_total q e.0 x ((Equal-is (nat_cmp q e.0)).0 is)
          ∙ is_Less (nat_cmp x e.0) (first_so (is_lt (nat_cmp x e.0)) (below_all nat_cmp x es) below)
      go later false is h = later h

  find_found : (test : (ℕ × X) → Bool) (es : List (ℕ × X)) (e : ℕ × X) → is_sorted nat_cmp es ≡ true
      → list.find test es ≡ Some e → find nat_cmp e.0 es ≡ Some e.1
  find_found test [] e sorted is = absurd (cc is)
  find_found test (f ∷ es) e sorted is =
      go (find_found test es e (second_so (below_all nat_cmp f.0 es) (is_sorted nat_cmp es) sorted)) (test f) is
    where
      go : (list.find test es ≡ Some e → find nat_cmp e.0 es ≡ Some e.1) → (b : Bool)
          → cond b (Some f) (list.find test es) ≡ Some e → find nat_cmp e.0 (f ∷ es) ≡ Some e.1
      go later true h =
          let same : f ≡ e = cc h in
          subst (λ (g : ℕ × X). find nat_cmp g.0 (f ∷ es) ≡ Some g.1) same
          (ap (λ b. cond b (Some f.1) (find nat_cmp f.0 es)) (ap is_eq (tied_itself nat_cmp_total f.0)))
      go later false h =
          let rest = later h in
          let above = found_above f.0 e.0 e.1 es (first_so (below_all nat_cmp f.0 es) (is_sorted nat_cmp es) sorted) rest in
          let apart : eq_by_cmp nat_cmp e.0 f.0 ≡ false =
          ap is_eq (nat_cmp_total.antisymm e.0 f.0) ∙ less_not_equal (nat_cmp f.0 e.0) above in
          ap (λ b. cond b (Some f.1) (find nat_cmp e.0 es)) apart ∙ rest

  get_found : (test : (ℕ × X) → Bool) (m : FinMap nat_cmp X) (e : ℕ × X) → list.find test (entries m) ≡ Some e
      → get m e.0 ≡ Some e.1
  get_found test m e is =
      get-entries m e.0 ∙ find_found test (entries m) e (truth (is_sorted nat_cmp (entries m)) (entries_sorted m)) is

-- ---- what is there

pub record NodeFits (number : ℕ) (node : Node) : Type 0 where
  pub given : number + 1 < 2 ^ 64
  pub mode : node.mode < 2 ^ 32
  pub uid : node.uid < 2 ^ 32
  pub gid : node.gid < 2 ^ 32

abbrev pub NodesFit : FinMap nat_cmp Node → Type 0
NodesFit nodes = (number : ℕ) (node : Node) → get nodes number ≡ Some node → NodeFits number node

pub record ListingFits (d : Listing) : Type 0 where
  pub nodes : NodesFit d.nodes
  pub next_node : d.next_node < 2 ^ 64
  pub next_fh : d.next_fh < 2 ^ 64

pub nodes_insert : (nodes : FinMap nat_cmp Node) (number : ℕ) (node : Node) → NodesFit nodes → NodeFits number node
    → NodesFit (insert nodes number node)
nodes_insert nodes k v fits own q node e =
    go (eq_by_cmp nat_cmp q k) refl (sym (get-insert nat_cmp_total nodes k v q) ∙ e)
  where
    go : (b : Bool) → eq_by_cmp nat_cmp q k ≡ b → cond b (Some v) (get nodes q) ≡ Some node → NodeFits q node
    go true is h =
        let key : k ≡ q = sym (nat_cmp-IsAntisymmetric q k ((Equal-is (nat_cmp q k)).0 is)) in
        let value : v ≡ node = cc h in
        subst (λ x. NodeFits x node) key (subst (NodeFits k) value own)
    go false is h = fits q node h

nodes_remove : (nodes : FinMap nat_cmp Node) (number : ℕ) → NodesFit nodes → NodesFit (remove nodes number)
nodes_remove nodes k fits q node e =
    go (eq_by_cmp nat_cmp q k) (sym (get-remove nat_cmp_total nodes k q) ∙ e)
  where
    go : (b : Bool) → cond b None (get nodes q) ≡ Some node → NodeFits q node
    go true h = absurd (cc h)
    go false h = fits q node h

-- ---- nodes that are made

mode_fits : (kind mode bits : ℕ) → kind < 2 ^ 31 → bits < 2 ^ 31 → bit_or kind (bit_and mode bits) < 2 ^ 32
mode_fits kind mode bits few_kind few_bits = omega (arith, or_add_and kind (bit_and mode bits), and_le_r mode bits)

abbrev MadeFits : Node → Type 0
MadeFits node = (number : ℕ) → number + 1 < 2 ^ 64 → NodeFits number node

file_fits : (uid gid mode : ℕ) (name : List ℕ) → uid < 2 ^ 32 → gid < 2 ^ 32 → MadeFits (made_node uid gid (file_mode mode) name)
file_fits uid gid mode name few_uid few_gid number few =
    record { given = few; mode = mode_fits 32768 mode 511 (omega arith) (omega arith); uid = few_uid; gid = few_gid }

mknod_fits : (uid gid mode : ℕ) (name : List ℕ) → uid < 2 ^ 32 → gid < 2 ^ 32 → MadeFits (made_node uid gid (mknod_mode mode) name)
mknod_fits uid gid mode name few_uid few_gid number few =
    record { given = few; mode = mode_fits 32768 mode 4095 (omega arith) (omega arith); uid = few_uid; gid = few_gid }

folder_fits : (uid gid mode : ℕ) (name : List ℕ) → uid < 2 ^ 32 → gid < 2 ^ 32 → MadeFits (made_node uid gid (folder_mode mode) name)
folder_fits uid gid mode name few_uid few_gid number few =
    record { given = few; mode = mode_fits 16384 mode 4095 (omega arith) (omega arith); uid = few_uid; gid = few_gid }

module _ (d : Listing) (fits : ListingFits d) where
  linked_fits : (name : List ℕ) (found : ℕ × Node) → linked d name ≡ Some found → NodeFits found.0 found.1
  linked_fits name found is = fits.nodes found.0 found.1 (get_found (λ e. is_named e.1 name) d.nodes found is)

  -- ---- answers

  attributes_fit : (number : ℕ) (node : Node) → NodeFits number node → FitsAttr (attributes number node)
  attributes_fit number node own =
      record { node = omega arith; mode = own.mode; nlink = few node.linked (is_folder node); uid = own.uid; gid = own.gid }
    where
      few : (named folder : Bool) → (if named then (if folder then 2 else 1) else 0) < 2 ^ 32
      few true true = omega arith
      few true false = omega arith
      few false folder = omega arith

  pub lookup_sits : (node : ℕ) (name : List ℕ) → SitsResult (lookup_reply d node name)
  lookup_sits node name =
      sits_unless (directory_error d node) (found_reply (linked d name)) (found (linked d name) (linked_fits name))
    where
      found : (o : Option (ℕ × Node)) → ((f : ℕ × Node) → o ≡ Some f → NodeFits f.0 f.1) → SitsResult (found_reply o)
      found None own = tt
      found (Some f) own =
          sits_if (lookups_full f.1) (Err _) (Ok (Entry (attributes f.0 f.1))) (λ _. tt)
          (λ _. (attributes_fit f.0 f.1 (own f refl), (own f refl).given))

  second : (x y : Bool) → (x || y) ≡ false → y ≡ false
  second true y e = absurd (cc e)
  second false y e = e

  fh_sits : files_full d ≡ false → d.next_fh + 1 < 2 ^ 64
  fh_sits few =
      let less = fits.next_fh in
      let apart : d.next_fh ≢ 2 ^ 64 - 1 =
      eqb-false d.next_fh (2 ^ 64 - 1) (second (nat_le d.most_files (len d.files)) (d.next_fh == 2 ^ 64 - 1) few) in
      omega arith

  node_sits : nodes_full d ≡ false → d.next_node + 1 < 2 ^ 64
  node_sits few =
      let less = fits.next_node in
      let apart : d.next_node ≢ 2 ^ 64 - 1 =
      eqb-false d.next_node (2 ^ 64 - 1) (second (nat_le d.most_nodes (len d.nodes)) (d.next_node == 2 ^ 64 - 1) few) in
      omega arith

  pub open_sits : (node : ℕ) → SitsResult (open_reply d node)
  open_sits node =
      sits_if (not (is_known d node)) _ _ (λ _. tt)
      (λ _. sits_if ((node == 1) || is_folder_at d node) _ _ (λ _. tt)
      (λ _. sits_if (files_full d) _ _ (λ _. tt) (λ few. fh_sits few)))

  attributes_at_fit : (number : ℕ) → SitsResult (attr_reply (attributes_at d number))
  attributes_at_fit number = root (number == 1)
    where
      root_fits : FitsAttr root_attributes
      root_fits = record { node = omega arith; mode = omega arith; nlink = omega arith; uid = omega arith; gid = omega arith }

      other : (o : Option Node) → ((node : Node) → o ≡ Some node → NodeFits number node)
          → SitsResult (attr_reply (option_map (attributes number) o))
      other None own = tt
      other (Some node) own = attributes_fit number node (own node refl)

      root : (b : Bool) → SitsResult (attr_reply (if b then Some root_attributes else option_map (attributes number) (get d.nodes number)))
      root true = root_fits
      root false = other (get d.nodes number) (fits.nodes number)

  pub getattr_sits : (node : ℕ) → SitsResult (getattr_reply d node)
  getattr_sits node = attributes_at_fit node

  pub unlink_sits : (node : ℕ) (name : List ℕ) → SitsResult (unlink_reply d node name)
  unlink_sits node name =
      sits_unless (directory_error d node) (unlinked_reply (linked d name)) (found (linked d name))
    where
      found : (o : Option (ℕ × Node)) → SitsResult (unlinked_reply o)
      found None = tt
      found (Some f) = sits_if (is_folder f.1) _ _ (λ _. tt) (λ _. tt)

  pub rmdir_sits : (node : ℕ) (name : List ℕ) → SitsResult (rmdir_reply d node name)
  rmdir_sits node name =
      sits_unless (directory_error d node) (removed_reply (linked d name)) (found (linked d name))
    where
      found : (o : Option (ℕ × Node)) → SitsResult (removed_reply o)
      found None = tt
      found (Some f) = sits_if (is_folder f.1) _ _ (λ _. tt) (λ _. tt)

  pub create_sits : (node uid gid : ℕ) (excl : Bool) (mode : ℕ) (name : List ℕ) → uid < 2 ^ 32 → gid < 2 ^ 32
      → SitsResult (create_reply d node uid gid excl mode name)
  create_sits node uid gid excl mode name few_uid few_gid =
      sits_unless (making_error d node) _
      (sits_if (is_reserved name) _ _ (λ _. tt) (λ _. either (linked d name) (linked_fits name)))
    where
      either : (o : Option (ℕ × Node)) → ((f : ℕ × Node) → o ≡ Some f → NodeFits f.0 f.1)
          → SitsResult (created_or_reopened d excl (made_node uid gid (file_mode mode) name) o)
      either None own =
          sits_if (nodes_full d) _ _ (λ _. tt)
          (λ room. sits_if (files_full d) _ _ (λ _. tt)
          (λ few. (
            attributes_fit d.next_node (made_node uid gid (file_mode mode) name)
                (file_fits uid gid mode name few_uid few_gid d.next_node (node_sits room)),
            node_sits room,
            fh_sits few,
          )))
      either (Some f) own =
          sits_if excl _ _ (λ _. tt)
          (λ _. sits_if (is_folder f.1) _ _ (λ _. tt)
          (λ _. sits_if (lookups_full f.1) _ _ (λ _. tt)
          (λ _. sits_if (files_full d) _ _ (λ _. tt)
          (λ few. (attributes_fit f.0 f.1 (own f refl), (own f refl).given, fh_sits few)))))

  make_sits : (node : ℕ) (can : Bool) (new : Node) → MadeFits new → SitsResult (make_reply d node can new)
  make_sits node can new own =
      sits_unless (making_error d node) _ (sits_if (is_reserved new.name) _ _ (λ _. tt) (λ _. free (linked d new.name)))
    where
      free : (o : Option (ℕ × Node)) → SitsResult (if_free o (if can then made d new else Err EPERM))
      free None =
          sits_if can _ _
          (λ _. sits_if (nodes_full d) _ _ (λ _. tt)
          (λ room. (attributes_fit d.next_node new (own d.next_node (node_sits room)), node_sits room)))
          (λ _. tt)
      free (Some found) = tt

  pub mknod_sits : (node uid gid mode : ℕ) (name : List ℕ) → uid < 2 ^ 32 → gid < 2 ^ 32
      → SitsResult (mknod_reply d node uid gid mode name)
  mknod_sits node uid gid mode name few_uid few_gid =
      make_sits node (is_regular mode) (made_node uid gid (mknod_mode mode) name) (mknod_fits uid gid mode name few_uid few_gid)

  pub mkdir_sits : (node uid gid mode : ℕ) (name : List ℕ) → uid < 2 ^ 32 → gid < 2 ^ 32
      → SitsResult (mkdir_reply d node uid gid mode name)
  mkdir_sits node uid gid mode name few_uid few_gid =
      make_sits node true (made_node uid gid (folder_mode mode) name) (folder_fits uid gid mode name few_uid few_gid)

  -- ---- changes

  with_nodes : (nodes : FinMap nat_cmp Node) → NodesFit nodes → ListingFits (record d { nodes = nodes })
  with_nodes nodes own = record { nodes = own; next_node = fits.next_node; next_fh = fits.next_fh }

  changed_fits : (number : ℕ) (change : Node → Node)
      → ((node : Node) → NodeFits number node → NodeFits number (change node))
      → ListingFits (record d { nodes = changed_at d.nodes number change })
  changed_fits number change keeps = with_nodes _ (go (get d.nodes number) (fits.nodes number))
    where
      go : (o : Option Node) → ((node : Node) → o ≡ Some node → NodeFits number node)
          → NodesFit (set_at d.nodes number (option_map change o))
      go None own = fits.nodes
      go (Some node) own = nodes_insert d.nodes number (change node) fits.nodes (keeps node (own node refl))

  pub swept_fits : (number : ℕ) → ListingFits (swept number d)
  swept_fits number = go (get d.nodes number)
    where
      keep : (b : Bool) → ListingFits (if b then d else record d { nodes = remove d.nodes number })
      keep true = fits
      keep false = with_nodes _ (nodes_remove d.nodes number fits.nodes)

      go : (o : Option Node) → ListingFits (swept_node d number o)
      go None = fits
      go (Some node) = keep (lives d number node)

pub after_lookup_fits : (d : Listing) → ListingFits d → (reply : Result Answer Errno) → ListingFits (after_lookup d reply)
after_lookup_fits d fits (Ok (Entry attr)) = changed_fits d fits attr.node counted_up
    (λ node own. record { given = own.given; mode = own.mode; uid = own.uid; gid = own.gid })
after_lookup_fits d fits (Ok Done) = fits
after_lookup_fits d fits (Ok (Attributes attr)) = fits
after_lookup_fits d fits (Ok (Open fh)) = fits
after_lookup_fits d fits (Ok (Made attr fh)) = fits
after_lookup_fits d fits (Ok (Lock start end kind pid)) = fits
after_lookup_fits d fits (Err e) = fits

pub after_create_fits : (d : Listing) → ListingFits d → (uid gid mode : ℕ) (name : List ℕ) (reply : Result Answer Errno)
    → uid < 2 ^ 32 → gid < 2 ^ 32 → SitsResult reply → ListingFits (after_create d uid gid mode name reply)
after_create_fits d fits uid gid mode name (Ok (Made attr fh)) few_uid few_gid sits = record {
  nodes = nodes_insert d.nodes attr.node _ fits.nodes (go (get d.nodes attr.node) (fits.nodes attr.node));
  next_node = next (contains_key d.nodes attr.node);
  next_fh = sits.2;
}
  where
    go : (o : Option Node) → ((node : Node) → o ≡ Some node → NodeFits attr.node node)
        → NodeFits attr.node (looked_up o (made_node uid gid (file_mode mode) name))
    go None own = file_fits uid gid mode name few_uid few_gid attr.node sits.1
    go (Some node) own =
        let o = own node refl in
        record { given = o.given; mode = o.mode; uid = o.uid; gid = o.gid }

    next : (b : Bool) → (if b then d.next_node else attr.node + 1) < 2 ^ 64
    next true = fits.next_node
    next false = sits.1
after_create_fits d fits uid gid mode name (Ok (Entry attr)) few_uid few_gid sits = fits
after_create_fits d fits uid gid mode name (Ok Done) few_uid few_gid sits = fits
after_create_fits d fits uid gid mode name (Ok (Attributes attr)) few_uid few_gid sits = fits
after_create_fits d fits uid gid mode name (Ok (Open fh)) few_uid few_gid sits = fits
after_create_fits d fits uid gid mode name (Ok (Lock start end kind pid)) few_uid few_gid sits = fits
after_create_fits d fits uid gid mode name (Err e) few_uid few_gid sits = fits

after_make_fits : (d : Listing) → ListingFits d → (new : Node) → MadeFits new → (reply : Result Answer Errno) → SitsResult reply
    → ListingFits (after_make d new reply)
after_make_fits d fits new own (Ok (Entry attr)) sits =
    record { nodes = nodes_insert d.nodes attr.node new fits.nodes (own attr.node sits.1); next_node = sits.1; next_fh = fits.next_fh }
after_make_fits d fits new own (Ok Done) sits = fits
after_make_fits d fits new own (Ok (Attributes attr)) sits = fits
after_make_fits d fits new own (Ok (Open fh)) sits = fits
after_make_fits d fits new own (Ok (Made attr fh)) sits = fits
after_make_fits d fits new own (Ok (Lock start end kind pid)) sits = fits
after_make_fits d fits new own (Err e) sits = fits

pub after_mknod_fits : (d : Listing) → ListingFits d → (uid gid mode : ℕ) (name : List ℕ) (reply : Result Answer Errno)
    → uid < 2 ^ 32 → gid < 2 ^ 32 → SitsResult reply → ListingFits (after_mknod d uid gid mode name reply)
after_mknod_fits d fits uid gid mode name reply few_uid few_gid sits =
    after_make_fits d fits (made_node uid gid (mknod_mode mode) name) (mknod_fits uid gid mode name few_uid few_gid) reply sits

pub after_mkdir_fits : (d : Listing) → ListingFits d → (uid gid mode : ℕ) (name : List ℕ) (reply : Result Answer Errno)
    → uid < 2 ^ 32 → gid < 2 ^ 32 → SitsResult reply → ListingFits (after_mkdir d uid gid mode name reply)
after_mkdir_fits d fits uid gid mode name reply few_uid few_gid sits =
    after_make_fits d fits (made_node uid gid (folder_mode mode) name) (folder_fits uid gid mode name few_uid few_gid) reply sits

pub after_open_fits : (d : Listing) → ListingFits d → (node : ℕ) (reply : Result Answer Errno) → SitsResult reply
    → ListingFits (after_open d node reply)
after_open_fits d fits node (Ok (Open fh)) sits = record { nodes = fits.nodes; next_node = fits.next_node; next_fh = sits }
after_open_fits d fits node (Ok (Entry attr)) sits = fits
after_open_fits d fits node (Ok Done) sits = fits
after_open_fits d fits node (Ok (Attributes attr)) sits = fits
after_open_fits d fits node (Ok (Made attr fh)) sits = fits
after_open_fits d fits node (Ok (Lock start end kind pid)) sits = fits
after_open_fits d fits node (Err e) sits = fits

pub after_unlink_fits : (d : Listing) → ListingFits d → (name : List ℕ) (reply : Result Answer Errno)
    → ListingFits (after_unlink d name reply)
after_unlink_fits d fits name (Err e) = fits
after_unlink_fits d fits name (Ok answer) = go (linked d name) (linked_fits d fits name)
  where
    go : (o : Option (ℕ × Node)) → ((f : ℕ × Node) → o ≡ Some f → NodeFits f.0 f.1) → ListingFits (unlinked d o)
    go None own = fits
    go (Some f) own =
        let o = own f refl in
        swept_fits _ (with_nodes d fits _ (nodes_insert d.nodes f.0 (without_link f.1) fits.nodes
        (record { given = o.given; mode = o.mode; uid = o.uid; gid = o.gid }))) f.0

pub after_forget_fits : (d : Listing) → ListingFits d → (node n : ℕ) → ListingFits (after_forget d node n)
after_forget_fits d fits node n =
    swept_fits _ (changed_fits d fits node (counted_down n)
    (λ other own. record { given = own.given; mode = own.mode; uid = own.uid; gid = own.gid })) node

pub after_close_fits : (d : Listing) → ListingFits d → (node fh : ℕ) (reply : Result Answer Errno)
    → ListingFits (after_close d node fh reply)
after_close_fits d fits node fh (Ok answer) =
    swept_fits (without_file d fh) (record { nodes = fits.nodes; next_node = fits.next_node; next_fh = fits.next_fh }) node
after_close_fits d fits node fh (Err e) = fits

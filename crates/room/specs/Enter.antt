-- Laws of going into a node: a frame is pushed, and the expression stays as it is.
use Rattle.std.specs.Prelude.{◌≡◌, true, List, ◌∷◌, length, get_or}
use Rattle.std.proofs.Math.Path.{refl, ap}
use Rattle.std.proofs.Common.{◌∙◌}
use Prim.Native.Nat.{ℕ, zero, suc, ◌+◌, ◌-◌, ◌≤◌, ◌<◌}
use native.Mathlib.Omega.{arith}
use Rattle.words.specs.Value.{value_with}
use Rattle.image.specs.declared.Kind.{Kind}
use Rattle.image.specs.declared.Kind.TheVariants.{New, Cast, Value as Literal, Var, Add, Eq, Assign, Get, Set, Call, Block, Seq, If, While, Throw, Try, Unknown}
use Rattle.image.specs.Trailer.{node_count}
use Rattle.image.specs.Nodes.{node_word, kind_of, operands, node_holds}
use Rattle.rules.specs.Trees.{Expr, operand, written, arguments, node_of, node_tree, tree}
use Rattle.rules.specs.Step.{Store, blocked, load, loads, bare}
use Rattle.laws.specs.Values.{value_at, IsValue}
use Rattle.laws.specs.Trees.{operand_count, operand_below, operand_first, node_size, tree_node, tree_value}
use Rattle.laws.specs.Frames.{Frame, plug, outer, plugs, outers}
use Rattle.room.specs.declared.Focus.TheVariants.{Node, Value}
use Rattle.room.specs.Room.{search_word, frame_at, store_of, first, shape_of, begun, calling, loaded, frame_of, word, tag, kept, frame, frames, FrameOk}
use Rattle.room.specs.RoomLaws.{Kept, kept_store, frames_more, kept_fit, fit_more, push, push_kept, push_tag, push_place, push3, push3_kept, push3_tag, push3_place, push3_third}
use Rattle.room.specs.Turn.{focus_of, weight, behind, pending, Inv, Moves}

-- the kinds whose first operand is gone into with a frame of a tag and a place
abbrev pub Opens : Kind → Type 0
Opens New = ⊥
Opens Cast = Unit {0}
Opens Literal = ⊥
Opens Var = ⊥
Opens Add = Unit {0}
Opens Eq = Unit {0}
Opens Assign = Unit {0}
Opens Get = Unit {0}
Opens Set = Unit {0}
Opens Call = ⊥
Opens Block = ⊥
Opens Seq = Unit {0}
Opens If = Unit {0}
Opens While = ⊥
Opens Throw = Unit {0}
Opens Try = Unit {0}
Opens Unknown = ⊥

loads_arguments : (o : ℕ → Expr) (k : ℕ) → loads (arguments o k) ≡ arguments (λ j. load (o j)) k
unfolding load arguments
loads_arguments o zero = refl
loads_arguments o (suc k) = rw (loads_arguments o k)

-- a frame that changes no variable, with its operand in it
pub plugs_in : (F : Frame) (Fs : List Frame) (s : Store) (e d : Expr) → plug blocked F s e ≡ d → outer F s ≡ s
    → plugs blocked (F ∷ Fs) s e ≡ plugs blocked Fs s d
unfolding plugs
plugs_in F Fs s e d p o = rw (o, p)

pub outers_in : (F : Frame) (Fs : List Frame) (s : Store) → outer F s ≡ s → outers (F ∷ Fs) s ≡ outers Fs s
unfolding outers
outers_in F Fs s o = rw o

module _ (p x y : ℕ) (o : ℕ → Expr) (s : Store) where
  opened : (k : Kind) → Opens k
      → plug blocked (begun k p x y (λ j. load (o j))) s (load (o (operands k y - 1))) ≡ load (node_of k p x y o)
  unfolding plug begun load node_of operands
  opened New h = absurd h
  opened Cast h = refl
  opened Literal h = absurd h
  opened Var h = absurd h
  opened Add h = refl
  opened Eq h = refl
  opened Assign h = refl
  opened Get h = refl
  opened Set h = refl
  opened Call h = absurd h
  opened Block h = absurd h
  opened Seq h = refl
  opened If h = refl
  opened While h = absurd h
  opened Throw h = refl
  opened Try h = refl
  opened Unknown h = absurd h

  opened_call : plug blocked (calling p x y 0 (λ k. 0) (λ j. load (o j))) s (load (o y)) ≡ load (node_of Call p x y o)
  unfolding plug calling load node_of
  opened_call = rw loads_arguments

  opened_outer : (k : Kind) → Opens k → outer (begun k p x y (λ j. load (o j))) s ≡ s
  unfolding outer begun
  opened_outer New h = absurd h
  opened_outer Cast h = refl
  opened_outer Literal h = absurd h
  opened_outer Var h = absurd h
  opened_outer Add h = refl
  opened_outer Eq h = refl
  opened_outer Assign h = refl
  opened_outer Get h = refl
  opened_outer Set h = refl
  opened_outer Call h = absurd h
  opened_outer Block h = absurd h
  opened_outer Seq h = refl
  opened_outer If h = refl
  opened_outer While h = absurd h
  opened_outer Throw h = refl
  opened_outer Try h = refl
  opened_outer Unknown h = absurd h

-- a tag of that shape is the number of such a kind
pub opens_kind : (t : ℕ) → shape_of t ≡ first → Opens (kind_of t)
unfolding shape_of kind_of
opens_kind zero e = absurd (let z : ◌≡◌ {A = ℕ} 0 1 = cc in omega arith)
opens_kind (suc zero) e = tt
opens_kind (suc (suc zero)) e = absurd (let z : ◌≡◌ {A = ℕ} 0 1 = cc in omega arith)
opens_kind (suc (suc (suc zero))) e = absurd (let z : ◌≡◌ {A = ℕ} 0 1 = cc in omega arith)
opens_kind (suc (suc (suc (suc zero)))) e = tt
opens_kind (suc (suc (suc (suc (suc zero))))) e = tt
opens_kind (suc (suc (suc (suc (suc (suc zero)))))) e = tt
opens_kind (suc (suc (suc (suc (suc (suc (suc zero))))))) e = tt
opens_kind (suc (suc (suc (suc (suc (suc (suc (suc zero)))))))) e = tt
opens_kind (suc (suc (suc (suc (suc (suc (suc (suc (suc zero))))))))) e = absurd (let z : ◌≡◌ {A = ℕ} 0 1 = cc in omega arith)
opens_kind (suc (suc (suc (suc (suc (suc (suc (suc (suc (suc zero)))))))))) e = absurd (let z : ◌≡◌ {A = ℕ} 0 1 = cc in omega arith)
opens_kind (suc (suc (suc (suc (suc (suc (suc (suc (suc (suc (suc zero))))))))))) e = tt
opens_kind (suc (suc (suc (suc (suc (suc (suc (suc (suc (suc (suc (suc zero)))))))))))) e = tt
opens_kind (suc (suc (suc (suc (suc (suc (suc (suc (suc (suc (suc (suc (suc zero))))))))))))) e = absurd (let z : ◌≡◌ {A = ℕ} 0 1 = cc in omega arith)
opens_kind (suc (suc (suc (suc (suc (suc (suc (suc (suc (suc (suc (suc (suc (suc zero)))))))))))))) e = tt
opens_kind (suc (suc (suc (suc (suc (suc (suc (suc (suc (suc (suc (suc (suc (suc (suc zero))))))))))))))) e = tt
opens_kind (suc (suc (suc (suc (suc (suc (suc (suc (suc (suc (suc (suc (suc (suc (suc (suc zero)))))))))))))))) e = absurd (let z : ◌≡◌ {A = ℕ} 0 1 = cc in omega arith)
opens_kind (suc (suc (suc (suc (suc (suc (suc (suc (suc (suc (suc (suc (suc (suc (suc (suc (suc zero))))))))))))))))) e = absurd (let z : ◌≡◌ {A = ℕ} 0 1 = cc in omega arith)
opens_kind (suc (suc (suc (suc (suc (suc (suc (suc (suc (suc (suc (suc (suc (suc (suc (suc (suc (suc zero)))))))))))))))))) e = absurd (let z : ◌≡◌ {A = ℕ} 0 1 = cc in omega arith)
opens_kind (suc (suc (suc (suc (suc (suc (suc (suc (suc (suc (suc (suc (suc (suc (suc (suc (suc (suc (suc zero))))))))))))))))))) e = absurd (let z : ◌≡◌ {A = ℕ} 0 1 = cc in omega arith)
opens_kind (suc (suc (suc (suc (suc (suc (suc (suc (suc (suc (suc (suc (suc (suc (suc (suc (suc (suc (suc (suc zero)))))))))))))))))))) e = absurd (let z : ◌≡◌ {A = ℕ} 0 1 = cc in omega arith)
opens_kind (suc (suc (suc (suc (suc (suc (suc (suc (suc (suc (suc (suc (suc (suc (suc (suc (suc (suc (suc (suc (suc zero))))))))))))))))))))) e = absurd (let z : ◌≡◌ {A = ℕ} 0 1 = cc in omega arith)
opens_kind (suc (suc (suc (suc (suc (suc (suc (suc (suc (suc (suc (suc (suc (suc (suc (suc (suc (suc (suc (suc (suc (suc zero)))))))))))))))))))))) e = absurd (let z : ◌≡◌ {A = ℕ} 0 1 = cc in omega arith)
opens_kind (suc (suc (suc (suc (suc (suc (suc (suc (suc (suc (suc (suc (suc (suc (suc (suc (suc (suc (suc (suc (suc (suc (suc zero))))))))))))))))))))))) e = absurd (let z : ◌≡◌ {A = ℕ} 0 1 = cc in omega arith)
opens_kind (suc (suc (suc (suc (suc (suc (suc (suc (suc (suc (suc (suc (suc (suc (suc (suc (suc (suc (suc (suc (suc (suc (suc (suc zero)))))))))))))))))))))))) e = absurd (let z : ◌≡◌ {A = ℕ} 0 1 = cc in omega arith)
opens_kind (suc (suc (suc (suc (suc (suc (suc (suc (suc (suc (suc (suc (suc (suc (suc (suc (suc (suc (suc (suc (suc (suc (suc (suc (suc zero))))))))))))))))))))))))) e = absurd (let z : ◌≡◌ {A = ℕ} 0 1 = cc in omega arith)
opens_kind (suc (suc (suc (suc (suc (suc (suc (suc (suc (suc (suc (suc (suc (suc (suc (suc (suc (suc (suc (suc (suc (suc (suc (suc (suc (suc zero)))))))))))))))))))))))))) e = absurd (let z : ◌≡◌ {A = ℕ} 0 1 = cc in omega arith)
opens_kind (suc (suc (suc (suc (suc (suc (suc (suc (suc (suc (suc (suc (suc (suc (suc (suc (suc (suc (suc (suc (suc (suc (suc (suc (suc (suc (suc zero))))))))))))))))))))))))))) e = absurd (let z : ◌≡◌ {A = ℕ} 0 1 = cc in omega arith)
opens_kind (suc (suc (suc (suc (suc (suc (suc (suc (suc (suc (suc (suc (suc (suc (suc (suc (suc (suc (suc (suc (suc (suc (suc (suc (suc (suc (suc (suc zero)))))))))))))))))))))))))))) e = absurd (let z : ◌≡◌ {A = ℕ} 0 1 = cc in omega arith)
opens_kind (suc (suc (suc (suc (suc (suc (suc (suc (suc (suc (suc (suc (suc (suc (suc (suc (suc (suc (suc (suc (suc (suc (suc (suc (suc (suc (suc (suc (suc zero))))))))))))))))))))))))))))) e = absurd (let z : ◌≡◌ {A = ℕ} 0 1 = cc in omega arith)
opens_kind (suc (suc (suc (suc (suc (suc (suc (suc (suc (suc (suc (suc (suc (suc (suc (suc (suc (suc (suc (suc (suc (suc (suc (suc (suc (suc (suc (suc (suc (suc t)))))))))))))))))))))))))))))) e = absurd (let z : ◌≡◌ {A = ℕ} 0 1 = cc in omega arith)

pub pending_same : (ws old new : List ℕ) (l : ℕ) → ((j : ℕ) → frame_at 0 ≤ j → j < frame_at l → get_or new j 0 ≡ get_or old j 0)
    → pending ws new l ≡ pending ws old l
unfolding pending
pending_same ws old new zero h = refl
pending_same ws old new (suc i) h =
    rw (h (frame_at i) (omega arith) (omega arith), h (frame_at i + 1) (omega arith) (omega arith), h (frame_at i + 2) (omega arith) (omega arith), pending_same ws old new i (λ j a b. h j a (omega arith)))

pub pending_kept : (ws : List ℕ) {old new : List ℕ} {l : ℕ} → Kept old new l → pending ws new l ≡ pending ws old l
pending_kept ws {old} {new} {l} k = pending_same ws old new l (λ j a b. k.same j b)

module _ (ws : List ℕ) (good : (n : ℕ) → n < node_count ws → node_holds ws n ≡ true) where
  pub loaded_node : (n : ℕ) → n < node_count ws
      → loaded ws n ≡ load (node_of (kind_of (node_word ws n 0)) n (node_word ws n 2) (node_word ws n 3) (λ j. tree ws (operand ws n j)))
  unfolding node_tree
  loaded_node n h = ap load (tree_node ws n (good n h))

  -- the nodes of a node's tree: itself, those of its operand j, and those behind it, if it is the first one
  pub sizes : (n j : ℕ) → n < node_count ws → suc j ≡ operand_count ws n
      → node_word ws n 1 ≡ suc (n - 1 - operand ws n j + node_word ws (operand ws n j) 1)
  sizes n j h e =
      omega (arith, operand_first ws n (good n h) j e, operand_below ws n (good n h) j (omega arith), node_size ws n (good n h))

  module _ (D : ℕ) (room : List ℕ) (l n : ℕ) (inv : Inv ws D room l (Node n)) where
    -- a literal, at any depth
    pub enter_value : (w : ℕ) → node_word ws n 0 ≡ 2 → value_at w ≡ written (value_with (node_word ws n 2) (node_word ws n 3)) → IsValue w
        → Moves ws D room l (Node n) room l (Value w)
    unfolding focus_of weight load kind_of
    enter_value w h e v =
        let t : loaded ws n ≡ bare (value_at w) = ap load (tree_value ws n (good n inv.here) (rw h)) ∙ rw e in
        record {
          inv = record { fit = inv.fit; level = inv.level; long = inv.long; here = v };
          size = refl;
          search = refl;
          same = rw t;
          around = refl;
          falls = omega (arith, node_size ws n (good n inv.here));
        }

  module _ (D : ℕ) (room : List ℕ) (l n : ℕ) (inv : Inv ws D room l (Node n)) (low : l ≤ D) where
    room_for : (k : ℕ) → k < 16 → frame_at l + k < length room
    room_for k h = omega (arith, inv.long)

    -- any room that has one frame more, with the node's first operand for its focus
    entered : (new : List ℕ) (j : ℕ) → Kept room new l → suc j ≡ operand_count ws n
        → FrameOk ws (shape_of (tag ws new l)) (tag ws new l) (word ws new l 1) (word ws new l 2) (word ws new l 4) (kept ws new l)
        → plug blocked (frame ws new l) (store_of room) (loaded ws (operand ws n j)) ≡ loaded ws n
        → outer (frame ws new l) (store_of room) ≡ store_of room
        → behind ws (shape_of (tag ws new l)) (tag ws new l) (word ws new l 1) (word ws new l 2) ≡ n - 1 - operand ws n j
        → Moves ws D room l (Node n) new (suc l) (Node (operand ws n j))
    unfolding plugs outers focus_of pending weight
    entered new j k e ok p o b =
        record {
          inv =
              record {
                fit = fit_more ws (kept_fit ws k inv.fit) (rw k.size (omega (arith, inv.long))) ok;
                level = omega arith;
                long = rw k.size inv.long;
                here = omega (arith, inv.here, operand_below ws n (good n inv.here) j (omega arith));
              };
          size = k.size;
          search = k.same search_word (omega arith);
          same = rw (frames_more ws k, kept_store k) (plugs_in (frame ws new l) (frames ws room l) (store_of room) _ _ p o);
          around = rw (frames_more ws k, kept_store k) (outers_in (frame ws new l) (frames ws room l) (store_of room) o);
          falls = rw (b, pending_kept ws k) (omega (arith, sizes n j inv.here e));
        }

    pub enter_first : (j : ℕ) → shape_of (node_word ws n 0) ≡ first → suc j ≡ operand_count ws n
        → Moves ws D room l (Node n) (push room l (node_word ws n 0) n) (suc l) (Node (operand ws n j))
    unfolding frame frame_of behind
    enter_first j h e =
        let k = node_word ws n 0 in
        let t : tag ws (push room l k n) l ≡ k = push_tag ws room l k n (room_for 1 (omega arith)) in
        let q : word ws (push room l k n) l 1 ≡ n = push_place ws room l k n (room_for 1 (omega arith)) in
        let c : j ≡ operands (kind_of k) (node_word ws n 3) - 1 = omega arith in
        let o = opens_kind k h in
        let x = node_word ws n 2 in
        let y = node_word ws n 3 in
        let u : ℕ → Expr = λ i. tree ws (operand ws n i) in
        entered (push room l k n) j (push_kept ws room l k n) e (rw (t, q, h) (inv.here, refl))
        (rw (t, q, h, c, loaded_node n inv.here) (opened n x y u (store_of room) (kind_of k) o))
        (rw (t, q, h) (opened_outer n x y u (store_of room) (kind_of k) o))
        (rw (t, q, h, c))

    pub enter_call : node_word ws n 0 ≡ 9
        → Moves ws D room l (Node n) (push3 room l 9 n 0) (suc l) (Node (operand ws n (node_word ws n 3)))
    unfolding frame frame_of behind shape_of kind_of operands calling outer
    enter_call h =
        let k = room_for 2 (omega arith) in
        let t : tag ws (push3 room l 9 n 0) l ≡ 9 = push3_tag ws room l 9 n 0 k in
        let q : word ws (push3 room l 9 n 0) l 1 ≡ n = push3_place ws room l 9 n 0 k in
        let a : word ws (push3 room l 9 n 0) l 2 ≡ 0 = push3_third ws room l 9 n 0 k in
        let y = node_word ws n 3 in
        let u : ℕ → Expr = λ i. tree ws (operand ws n i) in
        let z : y - 0 ≡ y = omega arith in
        entered (push3 room l 9 n 0) y (push3_kept ws room l 9 n 0 k) (rw h)
        (rw (t, q, a) ((inv.here, h), omega arith, λ i m. absurd (omega arith)))
        (rw (t, q, a, loaded_node n inv.here, h) (opened_call n (node_word ws n 2) y u (store_of room)))
        (rw (t, q, a))
        (rw (t, q, a, z))

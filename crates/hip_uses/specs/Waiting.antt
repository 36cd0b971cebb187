-- A queue as contracts see it: the messages that wait, by kind and bytes, and how many may.
use Rattle.std.specs.Prelude.{◌≡◌, ℕ, ◌<◌, List, [], ◌∷◌, ◌++◌, length, map}
use Rattle.hipstr.specs.Handle.{Handle}
use Rattle.hipstr.specs.declared.Kind.{Kind}

pub record Message : Type 0 where
  pub kind : Kind
  pub items : List ℕ

abbrev pub message_of : Handle → Message
message_of handle = record { kind = handle.kind; items = handle.items }

pub record Waiting : Type 0 where
  pub messages : List Message
  pub limit : ℕ

abbrev pub IsFull : Waiting → Type 0
IsFull queue = length queue.messages ≡ queue.limit

abbrev pub HasRoom : Waiting → Type 0
HasRoom queue = length queue.messages < queue.limit

-- the queue with the message at its end
abbrev pub with_message : Message → Waiting → Waiting
with_message message queue = record { messages = queue.messages ++ message ∷ []; limit = queue.limit }

-- each of the queues with the message at its end
abbrev pub all_with : Message → List Waiting → List Waiting
all_with message queues = map (with_message message) queues

-- What a clause reads of a conversation.
use Rattle.http_conversations.specs.declared.conversation.Conversation.{Conversation}
use Rattle.http_conversations.specs.History.{History}
use Rattle.http_conversations.specs.Talks.{history_of}

abbrev pub history : Conversation → History
history c = history_of c.talk
